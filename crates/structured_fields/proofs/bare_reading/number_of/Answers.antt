use Rattle.std.proofs.Common.{◌≤◌, ◌^◌, arith}
use Rattle.structured_fields.proofs.Runs.{ten_to, below_ten_to}
use Rattle.structured_fields.proofs.bare_reading.number_of.Goals as goal

pub overflow_mul-n : goal.overflow_mul-n
overflow_mul-n c = let h : 10 ^ c.loop-d.d-index ≤ 10 ^ 14 = ten_to c.loop-d.d-index (omega arith) in omega arith

pub overflow_add-n : goal.overflow_add-n
overflow_add-n c = let h : 10 ^ c.loop-d.d-index ≤ 10 ^ 14 = ten_to c.loop-d.d-index (omega arith) in omega arith

pub returns-clause-most : goal.returns-clause-most
returns-clause-most c = λ k h. below_ten_to c.loop-d.d-index k c.loop-d.n c.loop-d.invariant.bound (omega arith)
