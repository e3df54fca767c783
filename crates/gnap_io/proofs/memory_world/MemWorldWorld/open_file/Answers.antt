use Rattle.std.proofs.Common.{◌≡◌, ◌∙◌, ℕ, List, [], ◌∷◌, ◌++◌, false, refl, ap, sym, subst}
use Rattle.std.specs.Prelude.{Option, Some, Ok, option_map}
use Rattle.outside.specs.declared.world.Opening.{Opening}
use Rattle.outside.specs.declared.world.Opening.TheVariants.{File}
use Rattle.gnap_io.specs.FaultPlans.{Plan, is_bad, called}
use Rattle.gnap_io.specs.MemoryForms.{SourceForm, new_source, bytes_of, source_told}
use Rattle.gnap_io.specs.MemoryWorlds.{WorldForm, OpensFile, text_of}
use Rattle.gnap_io.specs.Named.{found_under, IsPlace}
use Rattle.outside.specs.Outside.{untouched}
use Rattle.outside.specs.Worlds.{WorldState}
use Rattle.gnap_io.proofs.MemoryOpenings.{noted-file}
use Rattle.gnap_io.proofs.NamedLemmas.{place-found}
use Rattle.gnap_io.proofs.memory_world.MemWorldWorld.open_file.Goals as goal

-- an opening that succeeds
by-plan : (name : List ℕ) (inside before : WorldForm) (state : WorldState) (opens : Plan) (source file : SourceForm)
    → inside ≡ before → is_bad inside.opens ≡ false → found_under inside.files name ≡ Some source
    → file ≡ new_source (bytes_of source) source.reads.bad → opens ≡ called inside.opens
    → OpensFile name before (record inside { state = state; opens = opens }) (Ok file)
by-plan name inside before state opens source file is good at same counted =
    subst (λ (w : WorldForm). OpensFile name w (record inside { state = state; opens = opens }) (Ok file)) is (
      good,
      (source, at, same),
      ap (λ (plan : Plan). record inside { state = state; opens = plan }) counted,
    )

pub returns-clause-by_plan : goal.returns-clause-by_plan
returns-clause-by_plan c =
    let name = c.args.name.now in
    let some = c.in-Some.ensures.some in
    let place = subst (λ (xs : List (List ℕ × SourceForm)). IsPlace xs name c.in-Some.place) c.as_slice.ensures.value some.1 in
    let at = place-found c.self.inside.files.items name c.in-Some.place c.index.result.now place c.index.ensures in
    by-plan name _ _ _ _ _ _ c.self.view_is some.0 at c.in-false-Ok-Some.ensures c.place_to_open.ensures.counted

pub returns-clause-state : goal.returns-clause-state
returns-clause-state c =
    noted-file (File c.args.name.now) _ _ _ c.self.view_is (
    c.push_reserved.ensures.items
    ∙ ap (λ (xs : List Opening). xs ++ File c.in-false-Ok-Some.name ∷ []) c.name_to_keep.ensures.items
    ∙ ap (λ (name : List ℕ). c.self.inside.opened.items ++ File name ∷ []) c.in-false-Ok-Some.ensures'.room.0
    )

-- what its file tells
unread : (files : List (List ℕ × SourceForm)) (name bad : List ℕ) (source file : SourceForm) → found_under files name ≡ Some source
    → file ≡ new_source (bytes_of source) bad → (file.faults ≡ 0) × (source_told file ≡ untouched (text_of files name))
unread files name bad source file at same =
    let told = ap (λ (found : Option SourceForm). untouched (option_map bytes_of found)) (sym at) in
    subst (λ (f : SourceForm). (f.faults ≡ 0) × (source_told f ≡ untouched (text_of files name))) (sym same) (refl, told)

pub returns-clause-file : goal.returns-clause-file
returns-clause-file c =
    let name = c.args.name.now in
    let place = subst (λ (xs : List (List ℕ × SourceForm)). IsPlace xs name c.in-Some.place) c.as_slice.ensures.value c.in-Some.ensures.some.1 in
    let at = place-found c.self.inside.files.items name c.in-Some.place c.index.result.now place c.index.ensures in
    unread c.args.self.now.files name _ _ _ (sym (ap (λ (w : WorldForm). found_under w.files name) c.self.view_is) ∙ at) c.in-false-Ok-Some.ensures
