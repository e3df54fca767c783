use Rattle.std.proofs.Common.{◌∙◌}
use Rattle.resource_sets.proofs.Places.{named-is, no-place}
use Rattle.resource_sets.proofs.registry.Registry.named.Goals as goal

pub returns-in_err-place : goal.returns-in_err-place
returns-in_err-place c = rw c.from_residual.ensures (no-place c.args.self.now c.args.reference.now c.requires c.in_err-place.ensures)

pub returns : goal.returns
returns c = c.set_at.ensures ∙ named-is c.in_ok-place.place c.args.reference.now c.args.self.now c.requires c.in_ok-place.ensures
