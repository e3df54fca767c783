use Rattle.std.proofs.Common.{arith}
use Rattle.structured_fields.proofs.bare_reading.decimal_of.Goals as goal

pub overflow_mul-n : goal.overflow_mul-n
overflow_mul-n c = omega (arith, c.number_of.ensures.most 12 (omega arith))

pub overflow_add-n : goal.overflow_add-n
overflow_add-n c = omega (arith, c.number_of.ensures.most 12 (omega arith))

pub with_sign-requires : goal.with_sign-requires
with_sign-requires c = omega (arith, c.number_of.ensures.most 12 (omega arith))
