use Rattle.std.proofs.Common.{ap, ◌∙◌}
use Rattle.std.specs.Option.{option_copied}
use Rattle.structured_fields.proofs.Places.{found_value, found_none}
use Rattle.structured_fields.proofs.named.Named.get.Goals as goal

pub returns : goal.returns
returns g c = found_value c.args.self.now c.args.name.now c.in_ok-place.field-0 c.in_ok-place.ensures.place c.at.result.1.now c.at.result.0.now c.at.ensures

pub returns-in_err-place : goal.returns-in_err-place
returns-in_err-place g c = ap option_copied c.from_residual.ensures ∙ found_none c.args.self.now c.args.name.now c.in_err-place.ensures.place
