use Rattle.std.proofs.Common.{◌≡◌, ◌-◌, [], length}
use Rattle.structured_fields.specs.Reading.{entry_at, with_entry, members_from}
use Rattle.structured_fields.proofs.reading.entries_in.Given as goal

abbrev pub invariant-loop : goal.invariant-loop
invariant-loop l = members_from entry_at with_entry (length l.bytes - l.counter) l.entries l.left ≡ members_from entry_at with_entry (length l.bytes) [] l.bytes
