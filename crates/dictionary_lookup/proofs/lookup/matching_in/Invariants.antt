use Rattle.std.proofs.Common.{◌-◌, [], length}
use Rattle.dictionary_lookup.specs.Skipping.{Tells}
use Rattle.structured_fields.specs.Reading.{members_from, entry_at, with_entry}
use Rattle.dictionary_lookup.proofs.SkippedEntries.{EntriesSoFar}
use Rattle.dictionary_lookup.proofs.lookup.matching_in.Given as goal

abbrev pub invariant-loop : goal.invariant-loop
invariant-loop l = EntriesSoFar (Tells l.name l.s l.found) (length l.bytes - l.counter) l.left (members_from entry_at with_entry (length l.bytes) [] l.bytes)
