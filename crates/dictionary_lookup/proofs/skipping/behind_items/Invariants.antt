use Rattle.std.proofs.Common.{◌-◌, length}
use Rattle.structured_fields.specs.Reading.{items_at}
use Rattle.dictionary_lookup.proofs.Behind.{ItemsSoFar}
use Rattle.dictionary_lookup.proofs.skipping.behind_items.Given as goal

abbrev pub invariant-loop : goal.invariant-loop
invariant-loop l = ItemsSoFar (length l.bytes - l.counter) l.left (items_at l.bytes)
