use Rattle.std.proofs.Common.{◌≡◌, ◌∙◌, ℕ, List, [], ◌∷◌, ◌++◌, false, ap, sym, subst}
use Rattle.std.specs.Prelude.{Some, Ok}
use Rattle.outside.specs.declared.world.Opening.{Opening}
use Rattle.outside.specs.declared.world.Opening.TheVariants.{Link}
use Rattle.gnap_io.specs.FaultPlans.{Plan, is_bad, called}
use Rattle.outside.specs.Links.{new_link}
use Rattle.gnap_io.specs.MemoryForms.{LinkForm, link_state}
use Rattle.gnap_io.specs.MemoryWorlds.{WorldForm, OpensLink}
use Rattle.gnap_io.specs.Named.{found_under, without, IsPlace}
use Rattle.outside.specs.Worlds.{WorldState}
use Rattle.gnap_io.proofs.MemoryOpenings.{noted-opening}
use Rattle.gnap_io.proofs.memory_world.MemWorldWorld.open_link.Goals as goal

-- an opening that succeeds
by-plan : (address : List ℕ) (inside before : WorldForm) (state : WorldState) (links : List (List ℕ × LinkForm)) (opens : Plan) (found : LinkForm)
    → inside ≡ before → is_bad inside.opens ≡ false → found_under inside.links address ≡ Some found
    → links ≡ without inside.links address → opens ≡ called inside.opens
    → OpensLink address before (record inside { state = state; links = links; opens = opens }) (Ok found)
by-plan address inside before state links opens found is good at rest counted =
    subst (λ (w : WorldForm). OpensLink address w (record inside { state = state; links = links; opens = opens }) (Ok found)) is (
      good,
      at,
      ap (λ (xs : List (List ℕ × LinkForm)). record inside { state = state; links = xs; opens = opens }) rest
          ∙ ap (λ (plan : Plan). record inside { state = state; links = without inside.links address; opens = plan }) counted,
    )

pub returns-clause-by_plan : goal.returns-clause-by_plan
returns-clause-by_plan c =
    let name = c.args.address.now in
    let some = c.in-Some.ensures.some in
    let place = subst (λ (xs : List (List ℕ × LinkForm)). IsPlace xs name c.in-Some.place) c.as_slice.ensures.value some.1 in
    let taken = c.taken_out-link.ensures in
    by-plan name _ _ _ _ _ _ c.self.view_is some.0 (taken.found name place) (taken.rest name place) c.place_to_open.ensures.counted

pub returns-clause-state : goal.returns-clause-state
returns-clause-state c =
    noted-opening (Link c.args.address.now) _ _ _ c.self.view_is (
    c.push_reserved.ensures.items
    ∙ ap (λ (xs : List Opening). xs ++ Link c.in-Some-name_to_keep.name ∷ []) c.name_to_keep.ensures.items
    ∙ ap (λ (name : List ℕ). c.self.inside.opened.items ++ Link name ∷ []) c.in-Some-name_to_keep.ensures.room.0
    )

pub returns-clause-link : goal.returns-clause-link
returns-clause-link c =
    let taken = c.taken_out-link in
    let place = subst (λ (xs : List (List ℕ × LinkForm)). IsPlace xs c.args.address.now c.in-Some.place) c.as_slice.ensures.value c.in-Some.ensures.some.1 in
    subst (λ (named : List ℕ × LinkForm). link_state named.1 ≡ new_link) (sym taken.ensures.value)
    (c.self.invariant.1 c.in-Some.place taken.result place.within)
