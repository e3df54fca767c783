use Rattle.std.proofs.Common.{◌≡◌, ℕ, List, drop}
use Rattle.structured_fields.specs.NameNotes.{walk, noted, Extends}
use Rattle.structured_fields.proofs.name_notes.note.Given as goal

abbrev pub invariant-loop-byte : goal.invariant-loop-byte
invariant-loop-byte l = record {
  follows : (more : List ℕ) → Extends l.notes.items more → walk more l.node (drop l.byte-index l.name) ≡ noted more l.name;
  extends : Extends l.fn.notes.items l.notes.items;
}
