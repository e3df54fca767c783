use Rattle.std.proofs.Common.{inl, inr}
use Rattle.load_lines.specs.LoadLines.{IsLoadLine}
use Rattle.command_inputs.proofs.Printing.{prints_such}
use Rattle.load_lines.proofs.counts.print_load.Goals as goal

pub returns-in-Ok-clause-prints : goal.returns-in-Ok-clause-prints
returns-in-Ok-clause-prints g c = (
  prints_such (IsLoadLine c.args.grants c.args.start c.args.workers) _ c.in-Ok.ensures _ _ _ c.print_text.ensures.prints,
  elim c.print_text.ensures.ended [ inl done ↦ inl done | inr fault ↦ inr (inl fault) ],
)
