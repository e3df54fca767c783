use Rattle.std.proofs.Common.{◌≡◌, None, arith, subst}
use Rattle.std.proofs.lemmas.List.{take_all}
use Rattle.structured_fields.specs.Named.{place_of}
use Rattle.structured_fields.proofs.NameNotes.{extends_on}
use Rattle.structured_fields.proofs.Places.{all_more}
use Rattle.structured_fields.proofs.named.note_all.Goals as goal

pub loop-i-preserved : goal.loop-i-preserved
loop-i-preserved g c = record {
  all = all_more c.loop-i.notes.items c.note.new.notes.items c.args.entries.now c.loop-i.i c.index-entries-i.result (omega (arith, c.loop-i-test.true))
      c.index-entries-i.is
      c.in_ok-note.ensures.extends (rw c.as_slice.ensures.value at c.in_ok-note.ensures.ok) c.loop-i.invariant.all;
  extends = extends_on c.args.notes.now.items c.loop-i.notes.items c.note.new.notes.items c.loop-i.invariant.extends c.in_ok-note.ensures.extends;
}

pub returns-in_err-note-clause-extends : goal.returns-in_err-note-clause-extends
returns-in_err-note-clause-extends g c =
    extends_on c.args.notes.now.items c.loop-i.notes.items c.note.new.notes.items c.loop-i.invariant.extends c.in_err-note.ensures.extends

pub returns-clause-ok : goal.returns-clause-ok
returns-clause-ok g c name none =
    subst (λ es. place_of es name ≡ None) (take_all c.loop-i.i c.args.entries.now (omega arith)) (c.loop-i.invariant.all name none)
