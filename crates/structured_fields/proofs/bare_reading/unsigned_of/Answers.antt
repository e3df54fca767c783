use Rattle.std.proofs.Common.{arith}
use Rattle.structured_fields.proofs.bare_reading.unsigned_of.Goals as goal

pub with_sign-requires : goal.with_sign-requires
with_sign-requires c = omega (arith, c.number_of.ensures.most 15 (omega arith))
