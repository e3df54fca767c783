use Rattle.std.proofs.Common.{refl}
use Rattle.structured_fields.specs.Reading.{inner_at}
use Rattle.structured_fields.proofs.item_reading.inner_of.Goals as goal

pub returns : goal.returns
unfolding inner_at
returns c = rw (c.in_ok-items.ensures, c.in_ok-params.ensures) refl
