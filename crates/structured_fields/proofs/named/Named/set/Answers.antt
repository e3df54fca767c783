use Rattle.std.proofs.Common.{◌≡◌, length, Some, ap, sym, subst, ◌∙◌, arith}
use Rattle.structured_fields.specs.Named.{IsDistinct, Covers, place_of, with_value}
use Rattle.structured_fields.proofs.Entries.{distinct_set}
use Rattle.structured_fields.proofs.Places.{written, covers_set}
use Rattle.structured_fields.proofs.named.Named.set.Goals as goal

pub returns-in-Some-clause-ok : goal.returns-in-Some-clause-ok
returns-in-Some-clause-ok g c =
    let es = c.self.inside.entries.items in
    let there : place_of c.args.self.now c.args.name
    ≡ Some c.in-Some.place = sym (c.in-Some.ensures.place ∙ ap (place_of c.args.self.now) c.as_slice.ensures.value) in
    written es c.args.name c.args.value c.in-Some.place c.index_mut.result.now (ap (λ l. place_of l c.args.name) c.self.view_is ∙ there)
    c.index_mut.ensures.value
    ∙ ap (λ l. with_value l c.args.name c.args.value) c.self.view_is

pub invariant_of-self : goal.invariant_of-self
invariant_of-self g c =
    let es = c.self.inside.entries.items in
    let there : place_of es c.args.name ≡ Some c.in-Some.place = ap (λ l. place_of l c.args.name) c.self.view_is
    ∙ sym (c.in-Some.ensures.place ∙ ap (place_of c.args.self.now) c.as_slice.ensures.value) in
    let is = sym (written es c.args.name c.args.value c.in-Some.place c.index_mut.result.now there c.index_mut.ensures.value) in (
      subst (Covers c.self.inside.notes.items) is (covers_set c.self.inside.notes.items es c.args.name c.args.value c.in-Some.place there c.self.invariant.0),
      subst IsDistinct is (distinct_set es c.args.name c.args.value c.self.invariant.1),
    )

pub index_mut-requires : goal.index_mut-requires
index_mut-requires g c = omega (arith, c.self.inside.entries.ok.0, ap length c.self.view_is, c.in-Some.ensures.within)
