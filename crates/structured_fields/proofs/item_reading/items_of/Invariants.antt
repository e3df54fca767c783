use Rattle.std.proofs.Common.{◌≡◌, ◌-◌, length}
use Rattle.structured_fields.specs.Reading.{items_from, items_at}
use Rattle.structured_fields.proofs.item_reading.items_of.Given as goal

abbrev pub invariant-loop : goal.invariant-loop
invariant-loop l = items_from (length l.bytes - l.counter) l.items l.left ≡ items_at l.bytes
