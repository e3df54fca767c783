-- One gear that served all that its door gave.
use Rattle.std.proofs.Common.{◌≡◌, ◌∙◌, ℕ, List, [], ◌∷◌, map, length, refl, sym, ap, subst, arith, Bool, true, false, inl}
use Rattle.std.specs.Prelude.{slice_index_or, slice_set, Result, Ok, Err, All}
use Rattle.std.proofs.lemmas.List.Elements.{All-nil, All-push}
use Rattle.outside.specs.Gears.{GearState, IsUnused, AreFull}
use Rattle.outside.specs.Links.{LinkState, new_link}
use Rattle.outside.specs.Worlds.{WorldState, HasWorldCause, with_opening, with_gears, with_link}
use Rattle.outside.specs.declared.world.Opening.TheVariants as opening
use Rattle.outside.specs.declared.world.WorldFault.{WorldFault}
use Rattle.outside.specs.declared.world.WorldFault.TheVariants as faults
use Rattle.serving.specs.Workers.{HasServedAll}
use Rattle.serving.specs.ServiceEnds.{has_failed, IsUsedUp, IsEndOfDoor, HaveServedJust}
use Rattle.serving.proofs.UsedUp.{used_up}
use Rattle.serving.proofs.ServiceLemmas.{served_just}
use Rattle.resource_server.specs.declared.setup.RsSetup.{RsSetup}
use Rattle.rs_edge.specs.GuardedSteps.{GuardsKeeping}
use Rattle.rs_edge.specs.RsSessions.{IsRsAccount}
use Rattle.rs_edge.specs.RsServices.{ServesOneGear, IsRsService, not_started, served}

served_whole : (before after : GearState) → IsUnused before → HasServedAll before after → has_failed after ≡ false → IsUsedUp after
served_whole before after unused all none =
    used_up (before ∷ []) (after ∷ []) (All-push IsUnused [] before (All-nil IsUnused) unused) (all, tt) (rw none refl) 0 after (omega arith)

-- where the door of the first gear, of a list that has no other, could give just so many connections, and didn't fail, the gear served so many
pub gear_served_just : {G : Type 0} (state : G → GearState) (gears : List G) (first after : G) (failed : Bool) (quota : ℕ) → length gears ≡ 1
    → first ≡ slice_index_or gears 0 first → All (λ gear. IsUnused (state gear)) gears → AreFull state quota gears → HasServedAll (state first) (state after)
    → failed ≡ has_failed (state after) → failed ≡ false → HaveServedJust quota (map state (slice_set gears 0 after))
gear_served_just state [] first after failed quota one is unused full all failed_is unfailed = absurd (omega (arith, one))
gear_served_just state (g ∷ []) first after failed quota one is unused full all failed_is unfailed =
    let new = subst (λ x. IsUnused (state x)) (sym is) (unused 0 g (omega arith)) in
    let Full : GearState → Type 0 = λ gear. gear.left ≡ quota in
    served_just quota (state first ∷ []) (state after ∷ []) (All-push IsUnused [] (state first) (All-nil IsUnused) new)
    (All-push Full [] (state first) (All-nil Full) (subst (λ x. (state x).left ≡ quota) (sym is) (full 0 g (omega arith)))) (all, tt)
    (All-push IsUsedUp [] (state after) (All-nil IsUsedUp) (served_whole (state first) (state after) new all (sym failed_is ∙ unfailed)))
gear_served_just state (g ∷ h ∷ gears) first after failed quota one is unused full all failed_is unfailed = absurd (omega (arith, one))

-- the same of the gears that a world took back before a link
pub just_back : (quota : ℕ) (link : LinkState) (gears : List GearState) (stopped after : WorldState) → stopped.gears ≡ gears → after ≡ with_link link stopped
    → HaveServedJust quota gears → HaveServedJust quota after.gears
just_back quota link gears stopped after gears_back link_back just =
    subst (HaveServedJust quota) (sym (ap (λ (s : WorldState). s.gears) link_back ∙ gears_back)) just

module _ {K : Type 0} (guards : GuardsKeeping K) (setup : RsSetup) (kept kept_now : K) (link : LinkState) where
  pub one_gear : (before after : GearState) (gears : List GearState) (failed : Bool) → gears ≡ after ∷ [] → IsUnused before
      → IsRsAccount guards setup kept after.log link.asked kept_now → after.out ≡ 0 → HasServedAll before after → failed ≡ has_failed after
      → ServesOneGear guards setup kept link gears failed kept_now
  one_gear before after gears failed one unused account out all is = record {
    gear = after;
    one = one;
    over = record { account = account; out = out };
    failed_is = is;
    used_up = λ none. served_whole before after unused all (sym is ∙ none);
  }

  -- the same of the first gear of a list that has no other
  pub gear_served : {G : Type 0} (state : G → GearState) (gears : List G) (first after : G) (failed : Bool) → length gears ≡ 1
      → first ≡ slice_index_or gears 0 first → All (λ gear. IsUnused (state gear)) gears → IsRsAccount guards setup kept (state after).log link.asked kept_now
      → (state after).out ≡ 0 → HasServedAll (state first) (state after) → failed ≡ has_failed (state after)
      → ServesOneGear guards setup kept link (map state (slice_set gears 0 after)) failed kept_now
  gear_served state [] first after failed one is unused account out all failed_is = absurd (omega (arith, one))
  gear_served state (g ∷ []) first after failed one is unused account out all failed_is =
      one_gear (state first) (state after) (state after ∷ []) failed refl (subst (λ x. IsUnused (state x)) (sym is) (unused 0 g (omega arith)))
      account out all failed_is
  gear_served state (g ∷ h ∷ gears) first after failed one is unused account out all failed_is = absurd (omega (arith, one))

  pub as_told : (gears : List GearState) (failed told : Bool) → failed ≡ told → ServesOneGear guards setup kept link gears failed kept_now
      → ServesOneGear guards setup kept link gears told kept_now
  as_told gears failed told is serves = subst (λ f. ServesOneGear guards setup kept link gears f kept_now) is serves

-- ---- in a world

module _ {K : Type 0} (guards : GuardsKeeping K) (setup : RsSetup) (kept kept_now : K) (listen server : List ℕ) (quota : ℕ)
    (before opened started stopped after : WorldState)
    (link : LinkState) (gears : List GearState)
    (link_is : opened ≡ with_opening (opening.Link server) before) (gears_are : started ≡ with_opening (opening.Gears listen 1 quota) opened)
    (gears_back : stopped ≡ with_gears gears started) (link_back : after ≡ with_link link stopped) where
  state_is : (gear : GearState) → gears ≡ gear ∷ []
      → after ≡ with_link link (with_gears (gear ∷ []) (with_opening (opening.Gears listen 1 quota) (with_opening (opening.Link server) before)))
  state_is gear one = link_back ∙ ap (with_link link) (gears_back ∙ ap (λ gs. with_gears gs started) one
      ∙ ap (with_gears (gear ∷ [])) (gears_are ∙ ap (with_opening (opening.Gears listen 1 quota)) link_is))

  pub served_failed : {D : Type 0} → ServesOneGear guards setup kept link gears true kept_now
      → (let r : Result D WorldFault = Err faults.Failed in IsRsService guards setup listen server quota before after kept kept_now r)
  served_failed one = served (Err faults.Failed) link one.gear kept_now (state_is one.gear one.one) one.over
      (rw (sym one.failed_is) refl, All-push IsEndOfDoor [] one.gear (All-nil IsEndOfDoor) (inl (sym one.failed_is)))

  pub served_well : {D : Type 0} (done : D) → ServesOneGear guards setup kept link gears false kept_now
      → (let r : Result D WorldFault = Ok done in IsRsService guards setup listen server quota before after kept kept_now r)
  served_well done one = served (Ok done) link one.gear kept_now (state_is one.gear one.one) one.over
      (All-push IsUsedUp [] one.gear (All-nil IsUsedUp) (one.used_up refl))

pub unstarted : {K : Type 0} (guards : GuardsKeeping K) {D : Type 0} (setup : RsSetup) (kept : K) (listen server : List ℕ) (quota : ℕ)
    (before opened unopened after : WorldState)
    (link : LinkState) (fault : WorldFault)
    → opened ≡ with_opening (opening.Link server) before → unopened ≡ record opened { faults = unopened.faults }
    → HasWorldCause opened.faults unopened.faults fault
    → link ≡ new_link → after ≡ with_link link unopened
    → (let r : Result D WorldFault = Err fault in IsRsService guards setup listen server quota before after kept kept r)
unstarted guards setup kept listen server quota before opened unopened after link fault link_is same cause new back =
    let faults_are : after.faults ≡ unopened.faults = ap (λ (s : WorldState). s.faults) back in
    let faults_were : opened.faults ≡ before.faults = ap (λ (s : WorldState). s.faults) link_is in
    not_started fault
    (back ∙ ap (λ l. with_link l unopened) new ∙ ap (with_link new_link) same
    ∙ ap (λ (s : WorldState). with_link new_link (record s { faults = unopened.faults })) link_is
    ∙ ap (λ n. record (with_link new_link (with_opening (opening.Link server) before)) { faults = n }) (sym faults_are))
    (subst (λ n. HasWorldCause before.faults n fault) (sym faults_are) (subst (λ n. HasWorldCause n unopened.faults fault) faults_were cause))
