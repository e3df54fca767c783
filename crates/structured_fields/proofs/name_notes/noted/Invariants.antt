use Rattle.std.proofs.Common.{◌≡◌, drop}
use Rattle.structured_fields.specs.NameNotes.{walk, noted}
use Rattle.structured_fields.proofs.name_notes.noted.Given as goal

abbrev pub invariant-loop-byte : goal.invariant-loop-byte
invariant-loop-byte l = walk l.cells l.node (drop l.byte-index l.name) ≡ noted l.cells l.name
