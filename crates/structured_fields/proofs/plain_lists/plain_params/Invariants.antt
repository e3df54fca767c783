use Rattle.std.proofs.Common.{◌≡◌, ◌++◌}
use Rattle.structured_fields.specs.Named.{IsDistinct}
use Rattle.structured_fields.specs.Canonical.{params_text, AreInRange}
use Rattle.structured_fields.proofs.plain_lists.plain_params.Given as goal

abbrev pub invariant-loop : goal.invariant-loop
invariant-loop l = (l.fn.text ≡ params_text l.params ++ l.left) × AreInRange l.params × IsDistinct l.params
