use Rattle.std.proofs.Common.{◌≡◌, ◌∙◌, ℕ, List, [], ◌∷◌, ◌++◌, All, false, ap, sym, subst}
use Rattle.std.specs.Prelude.{Some, Ok}
use Rattle.std.specs.Global.{Vec}
use Rattle.outside.specs.declared.world.Opening.{Opening}
use Rattle.outside.specs.declared.world.Opening.TheVariants.{Gears}
use Rattle.gnap_io.specs.FaultPlans.{Plan, is_bad, called}
use Rattle.outside.specs.Gears.{IsUnused}
use Rattle.gnap_io.specs.MemoryForms.{GearForm, gear_state}
use Rattle.gnap_io.specs.MemoryWorlds.{WorldForm, StartsGears}
use Rattle.gnap_io.specs.Named.{found_under, without, IsPlace}
use Rattle.outside.specs.Worlds.{WorldState}
use Rattle.gnap_io.proofs.MemoryOpenings.{noted-opening}
use Rattle.gnap_io.proofs.memory_world.MemWorldWorld.start_gears.Goals as goal

-- a start that succeeds
by-plan : (address : List ℕ) (n quota : ℕ) (inside before : WorldForm) (state : WorldState) (gears : List (List ℕ × Vec GearForm)) (opens : Plan)
    (found : Vec GearForm) → inside ≡ before → is_bad inside.opens ≡ false → found_under inside.gears address ≡ Some found
    → gears ≡ without inside.gears address → opens ≡ called inside.opens
    → StartsGears address n quota before (record inside { state = state; gears = gears; opens = opens }) (Ok found)
by-plan address n quota inside before state gears opens found is good at rest counted =
    subst (λ (w : WorldForm). StartsGears address n quota w (record inside { state = state; gears = gears; opens = opens }) (Ok found)) is (
      good,
      at,
      ap (λ (xs : List (List ℕ × Vec GearForm)). record inside { state = state; gears = xs; opens = opens }) rest
          ∙ ap (λ (plan : Plan). record inside { state = state; gears = without inside.gears address; opens = plan }) counted,
    )

pub returns-clause-by_plan : goal.returns-clause-by_plan
returns-clause-by_plan c =
    let name = c.args.address.now in
    let some = c.in-Some.ensures.some in
    let place = subst (λ (xs : List (List ℕ × Vec GearForm)). IsPlace xs name c.in-Some.place) c.as_slice-gears.ensures.value some.1 in
    let taken = c.taken_out-gears.ensures in
    by-plan name c.args.n c.args.quota _ _ _ _ _ _ c.self.view_is some.0 (taken.found name place) (taken.rest name place) c.place_to_start.ensures.counted

pub returns-clause-state : goal.returns-clause-state
returns-clause-state c =
    let kept = c.in-Some-name_to_keep.ensures.room.0 in
    let Opened : List ℕ → Opening = λ name. Gears name c.args.n c.args.quota in
    noted-opening (Opened c.args.address.now) _ _ _ c.self.view_is (
    c.push_reserved.ensures.items
    ∙ ap (λ (xs : List Opening). xs ++ Opened c.in-Some-name_to_keep.name ∷ []) c.name_to_keep.ensures.items
    ∙ ap (λ (name : List ℕ). c.self.inside.opened.items ++ Opened name ∷ []) kept
    )

pub returns-clause-gears : goal.returns-clause-gears
returns-clause-gears c =
    let name = c.args.address.now in
    let some = c.in-Some.ensures.some in
    let items = c.as_slice-gears.ensures.value in
    let place = subst (λ (xs : List (List ℕ × Vec GearForm)). IsPlace xs name c.in-Some.place) items some.1 in
    let taken = c.taken_out-gears in
    let within = some.2 taken.result.1 (ap (λ (xs : List (List ℕ × Vec GearForm)). found_under xs name) items ∙ taken.ensures.found name place) in
    record {
      many = within.0;
      unused = subst (λ (group : List ℕ × Vec GearForm). All (λ gear. IsUnused (gear_state gear)) group.1.items) (sym taken.ensures.value)
          (c.self.invariant.0 c.in-Some.place taken.result place.within);
      within = within.1;
    }
