use Rattle.std.proofs.Common.{arith}
use mathlib.Core.Option.{none}
use Rattle.atomic_table.specs.Table.{step}
use Rattle.shared_server.proofs.Steps.{stays}
use Rattle.shared_server.proofs.turn.mark.Goals as goal

pub swap-requires : goal.swap-requires
swap-requires g c = (
  c.requires.table.0,
  (let w = c.requires.table.1 in let i = c.requires.word.1 in omega (arith, w, i)),
  stays (λ b. g.C.Core.stands b.value) (λ b. g.C.Core.rules b.value) (g.C.Core.rules c.args.top.now.key.core.value) c.args.top.now.key.count _ _ _ _
      (λ _. c.args.sleeps)
      (step c.args.top.now.table_id.slots c.args.word c.args.sleeps 0 none) c.requires.word.0,
)
