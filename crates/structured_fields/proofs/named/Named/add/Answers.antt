use Rattle.std.proofs.Common.{◌≡◌, ◌∷◌, [], ◌++◌, length, ap, sym, subst, ◌∙◌, arith}
use Rattle.structured_fields.specs.Named.{IsDistinct, Covers, place_of}
use Rattle.structured_fields.proofs.Entries.{distinct_set}
use Rattle.structured_fields.proofs.Places.{put_last, covers_added}
use Rattle.structured_fields.proofs.named.Named.add.Goals as goal

pub returns-clause-ok : goal.returns-clause-ok
returns-clause-ok g c =
    c.in-Ok.ensures.items ∙ ap (λ l. l ++ (c.args.name, c.args.value) ∷ []) (c.reserve.ensures.items ∙ c.self.view_is)
    ∙ put_last c.args.self.now c.args.name c.args.value c.requires.new

pub invariant_of-self-2 : goal.invariant_of-self-2
invariant_of-self-2 g c =
    let es = c.self.inside.entries.items in
    let notes = c.note_first.new.notes.items in
    let new : place_of es c.args.name ≡ _ = ap (λ l. place_of l c.args.name) c.self.view_is ∙ c.requires.new in
    let is : c.push.new.self.items ≡ es ++ (c.args.name, c.args.value) ∷ [] = c.in-Ok.ensures.items
    ∙ ap (λ l. l ++ (c.args.name, c.args.value) ∷ []) c.reserve.ensures.items in
    let these : c.as_slice.result.now ≡ es = c.as_slice.ensures.value ∙ c.reserve.ensures.items in (
      subst (Covers notes) (sym is)
          (covers_added es c.args.name c.args.value new notes (rw these at c.in_ok-note_first.ensures.all)
          (rw (these, c.as_slice-2.ensures.value) at c.in_ok-note_first.ensures.ok)),
      subst IsDistinct (sym (is ∙ put_last es c.args.name c.args.value new)) (distinct_set es c.args.name c.args.value c.self.invariant.1),
    )

pub invariant_of-self : goal.invariant_of-self
invariant_of-self g c = (
  λ many name none. absurd (omega (arith, many, ap length c.reserve.ensures.items, ap length c.self.view_is, c.requires.few)),
  subst IsDistinct (sym c.reserve.ensures.items) c.self.invariant.1,
)

pub invariant_of-self-in_err-note_first : goal.invariant_of-self-in_err-note_first
invariant_of-self-in_err-note_first g c = (
  λ many name none. absurd (omega (arith, many, ap length c.reserve.ensures.items, ap length c.self.view_is, c.requires.few)),
  subst IsDistinct (sym c.reserve.ensures.items) c.self.invariant.1,
)
