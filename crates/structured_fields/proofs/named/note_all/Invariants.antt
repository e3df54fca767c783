use Rattle.std.proofs.Common.{◌≡◌, ℕ, List, None, take}
use Rattle.structured_fields.specs.Named.{place_of}
use Rattle.structured_fields.specs.NameNotes.{noted, Extends}
use Rattle.structured_fields.proofs.named.note_all.Given as goal

abbrev pub invariant-loop-i : goal.invariant-loop-i
invariant-loop-i g l = record {
  all : (name : List ℕ) → noted l.notes.items name ≡ None → place_of (take l.i l.entries) name ≡ None;
  extends : Extends l.fn.notes.items l.notes.items;
}
