use Rattle.std.proofs.Common.{refl}
use Rattle.structured_fields.specs.Reading.{entry_at}
use Rattle.structured_fields.proofs.item_reading.entry_in.Goals as goal

pub returns : goal.returns
unfolding entry_at
returns c = rw (c.in_ok-name.ensures, c.in_ok-member.ensures) refl
