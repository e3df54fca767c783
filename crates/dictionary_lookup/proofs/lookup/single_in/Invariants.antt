use Rattle.std.proofs.Common.{◌≡◌, ◌-◌, [], length}
use Rattle.structured_fields.specs.Named.{value_at}
use Rattle.structured_fields.specs.Reading.{members_from, entry_at, with_entry}
use Rattle.dictionary_lookup.specs.Skipping.{bare_found}
use Rattle.dictionary_lookup.proofs.SkippedEntries.{EntriesSoFar}
use Rattle.dictionary_lookup.proofs.lookup.single_in.Given as goal

abbrev pub invariant-loop : goal.invariant-loop
invariant-loop l = EntriesSoFar (λ d. l.found ≡ bare_found (value_at d l.key)) (length l.bytes - l.counter) l.left
    (members_from entry_at with_entry (length l.bytes) [] l.bytes)
