use Rattle.std.proofs.Common.{List, subst, arith}
use Rattle.std.specs.Prelude.{option_map}
use Rattle.std.proofs.lemmas.List.{take_all}
use Rattle.grant_states.specs.declared.numbers_by_key.Listed.{Listed}
use Rattle.grant_states.specs.Grants.{open_numbered, IsLatest}
use Rattle.grant_states.proofs.NamedRounds.{latest_none, latest_step}
use Rattle.grant_states.proofs.grant_table.last_open.Goals as goal

pub loop-one-init : goal.loop-one-init
loop-one-init c = latest_none (open_numbered c.args.places.now c.args.now c.args.name)

pub loop-one-preserved : goal.loop-one-preserved
loop-one-preserved c =
    latest_step (open_numbered c.args.places.now c.args.now c.args.name) c.args.listed.now c.loop-one.one-index _ (option_map (λ row. row.now) c.loop-one.found)
    (option_map (λ row. row.now) c.open_at.result) (option_map (λ row. row.now) c.later-found.result)
    c.loop-one-test.true c.loop-one.invariant c.open_at.ensures c.later-found.ensures

pub returns : goal.returns
returns c = subst (λ (ls : List Listed). IsLatest (open_numbered c.args.places.now c.args.now c.args.name) ls (option_map (λ row. row.now) c.loop-one.found))
    (take_all c.loop-one.one-index c.args.listed.now (omega (arith, c.loop-one-test.false))) c.loop-one.invariant
