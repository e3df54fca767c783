use Rattle.structured_fields.proofs.NameNotes.{absent_before}
use Rattle.structured_fields.proofs.named.note_first.Goals as goal

pub returns-clause-all : goal.returns-clause-all
returns-clause-all g c many other none =
    c.in_ok-note_all.ensures.ok other (absent_before c.note_all.new.notes.items c.note.new.notes.items c.in_ok-note.ensures.extends other none)
