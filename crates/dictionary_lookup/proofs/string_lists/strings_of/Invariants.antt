use Rattle.std.proofs.Common.{◌-◌, length}
use Rattle.structured_fields.specs.Reading.{items_at}
use Rattle.dictionary_lookup.proofs.StringLists.{StringsSoFar}
use Rattle.dictionary_lookup.proofs.string_lists.strings_of.Given as goal

abbrev pub invariant-loop : goal.invariant-loop
invariant-loop l = StringsSoFar (length l.bytes - l.counter) l.items l.so_far l.left (items_at l.bytes)
