use Rattle.std.proofs.Common.{◌≡◌, ◌<◌, ◌∷◌, [], ◌++◌, length, Some, None, ap, sym, subst, ◌∙◌, arith}
use Rattle.structured_fields.specs.Named.{IsDistinct, Covers, place_of, with_value, few}
use Rattle.structured_fields.specs.NameNotes.{noted}
use Rattle.structured_fields.proofs.Entries.{distinct_set}
use Rattle.structured_fields.proofs.Places.{place_within, written, put_last, covers_more, covers_set, covers_added}
use Rattle.structured_fields.proofs.named.Named.set_among.Goals as goal

pub invariant_of-self-in_err-told : goal.invariant_of-self-in_err-told
invariant_of-self-in_err-told g c =
    let kept = sym c.reserve.ensures.items in (
      subst (Covers c.note.new.notes.items) kept
          (covers_more c.self.inside.notes.items c.note.new.notes.items c.self.inside.entries.items c.in_err-told.ensures.extends c.self.invariant.0),
      subst IsDistinct kept c.self.invariant.1,
    )

pub invariant_of-self-2 : goal.invariant_of-self-2
invariant_of-self-2 g c =
    let kept = sym c.reserve.ensures.items in (
      subst (Covers c.note.new.notes.items) kept
          (covers_more c.self.inside.notes.items c.note.new.notes.items c.self.inside.entries.items c.in_ok-told.ensures.extends c.self.invariant.0),
      subst IsDistinct kept c.self.invariant.1,
    )

pub index_mut-requires : goal.index_mut-requires
index_mut-requires g c =
    let items = c.reserve.new.self.items in
    let within : c.in-Some.place < length items = place_within items c.as_slice-2.result.now c.in-Some.place (sym c.in-Some.ensures) in
    omega (arith, c.reserve.new.self.ok.0, within)

pub invariant_of-self-in-Some : goal.invariant_of-self-in-Some
invariant_of-self-in-Some g c =
    let items = c.reserve.new.self.items in
    let notes = c.note.new.notes.items in
    let kept = sym c.reserve.ensures.items in
    let there : place_of items c.args.name ≡ Some c.in-Some.place = sym (c.in-Some.ensures ∙ ap (place_of items) c.as_slice-2.ensures.value) in
    let is = sym (written items c.args.name c.args.value c.in-Some.place c.index_mut.result.now there c.index_mut.ensures.value) in
    let covers : Covers notes items = subst (Covers notes) kept
    (covers_more c.self.inside.notes.items notes c.self.inside.entries.items c.in_ok-told.ensures.extends c.self.invariant.0) in (
      subst (Covers notes) is (covers_set notes items c.args.name c.args.value c.in-Some.place there covers),
      subst IsDistinct is (distinct_set items c.args.name c.args.value (subst IsDistinct kept c.self.invariant.1)),
    )

pub returns-in-Some-clause-ok : goal.returns-in-Some-clause-ok
returns-in-Some-clause-ok g c =
    let items = c.reserve.new.self.items in
    let there : place_of items c.args.name ≡ Some c.in-Some.place = sym (c.in-Some.ensures ∙ ap (place_of items) c.as_slice-2.ensures.value) in
    written items c.args.name c.args.value c.in-Some.place c.index_mut.result.now there c.index_mut.ensures.value
    ∙ ap (λ l. with_value l c.args.name c.args.value) (c.reserve.ensures.items ∙ c.self.view_is)

pub invariant_of-self-in-None : goal.invariant_of-self-in-None
invariant_of-self-in-None g c =
    let items = c.reserve.new.self.items in
    let notes = c.note.new.notes.items in
    let kept = sym c.reserve.ensures.items in
    let new : place_of items c.args.name ≡ None = sym (c.in-None.ensures ∙ ap (place_of items) c.as_slice-2.ensures.value) in
    let is : c.push.new.self.items ≡ items ++ (c.args.name, c.args.value) ∷ [] = c.in-Ok.ensures.items in
    let covers : Covers notes items = subst (Covers notes) kept
    (covers_more c.self.inside.notes.items notes c.self.inside.entries.items c.in_ok-told.ensures.extends c.self.invariant.0) in
    let many : few < length items = subst (λ l. few < length l) (sym (c.reserve.ensures.items ∙ c.self.view_is)) c.requires in (
      subst (Covers notes) (sym is) (covers_added items c.args.name c.args.value new notes (λ enough. covers many)
          (λ enough. rw c.as_slice.ensures.value at c.in_ok-told.ensures.ok)),
      subst IsDistinct (sym (is ∙ put_last items c.args.name c.args.value new))
          (distinct_set items c.args.name c.args.value (subst IsDistinct kept c.self.invariant.1)),
    )

pub returns-in-Ok-clause-ok : goal.returns-in-Ok-clause-ok
returns-in-Ok-clause-ok g c =
    let items = c.reserve.new.self.items in
    let new : place_of items c.args.name ≡ None = sym (c.in-None.ensures ∙ ap (place_of items) c.as_slice-2.ensures.value) in
    c.in-Ok.ensures.items ∙ put_last items c.args.name c.args.value new
    ∙ ap (λ l. with_value l c.args.name c.args.value) (c.reserve.ensures.items ∙ c.self.view_is)

pub invariant_of-self : goal.invariant_of-self
invariant_of-self g c =
    let kept = sym c.reserve.ensures.items in (
      subst (Covers c.self.inside.notes.items) kept c.self.invariant.0,
      subst IsDistinct kept c.self.invariant.1,
    )

pub place_told-requires : goal.place_told-requires
place_told-requires g c none =
    let items = c.reserve.new.self.items in
    let many : few < length items = subst (λ l. few < length l) (sym (c.reserve.ensures.items ∙ c.self.view_is)) c.requires in
    let covers : Covers c.self.inside.notes.items items = subst (Covers c.self.inside.notes.items) (sym c.reserve.ensures.items) c.self.invariant.0 in
    let unnoted : noted c.self.inside.notes.items c.args.name ≡ None = rw c.as_slice.ensures.value at (c.in_ok-told.ensures.before none) in
    rw c.as_slice-2.ensures.value (covers many c.args.name unnoted)
