use Rattle.std.proofs.Common.{◌≡◌, ◌-◌, [], length}
use Rattle.structured_fields.specs.Reading.{member_at, with_last, members_from}
use Rattle.structured_fields.proofs.reading.members_in.Given as goal

abbrev pub invariant-loop : goal.invariant-loop
invariant-loop l = members_from member_at with_last (length l.bytes - l.counter) l.members l.left ≡ members_from member_at with_last (length l.bytes) [] l.bytes
