use Rattle.std.proofs.Common.{◌≡◌, ◌-◌, length}
use Rattle.structured_fields.specs.Reading.{params_from, params_at}
use Rattle.structured_fields.proofs.item_reading.params_of.Given as goal

abbrev pub invariant-loop : goal.invariant-loop
invariant-loop l = params_from (length l.bytes - l.counter) l.params l.left ≡ params_at l.bytes
