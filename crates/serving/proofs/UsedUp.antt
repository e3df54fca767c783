-- Gears that did nothing before, and then served all, are used up where their door didn't fail.
use Rattle.std.proofs.Common.{◌≡◌, ◌∙◌, ⊎_elim, suc, ◌≤◌, ◌||◌, Bool, true, false, List, [], ◌∷◌, map, refl, ap, subst, arith, inl, inr}
use Rattle.std.specs.Prelude.{All}
use Rattle.std.specs.List.{list_any}
use Rattle.std.proofs.lemmas.Bool.{or_parts, ltb-false}
use Rattle.std.proofs.lemmas.List.Elements.{All-cons, All-nil}
use Rattle.outside.specs.Outside.{Rose}
use Rattle.outside.specs.Gears.{GearState, IsUnused}
use Rattle.serving.specs.Workers.{HasServedAll, HaveServedAll}
use Rattle.serving.specs.ServiceEnds.{has_failed, IsUsedUp, IsEndOfDoor}

-- the same of gears and of what they count
pub any_counted : {G : Type 0} (state : G → GearState) (gears : List G)
    → list_any has_failed (map state gears) ≡ list_any (λ gear. has_failed (state gear)) gears
any_counted state [] = refl
any_counted state (gear ∷ gears) = ap (λ b. has_failed (state gear) || b) (any_counted state gears)

one_used_up : (before after : GearState) → IsUnused before → HasServedAll before after → has_failed after ≡ false → IsUsedUp after
one_used_up before after unused served unfailed =
    let none = ap (λ (g : GearState). g.faults) unused in
    let few : after.faults ≤ 0 = ltb-false 0 after.faults unfailed in
    ⊎_elim
    (λ (d : (after.left ≡ 0) × (after.faults ≡ before.faults)). record { left = d.0; unfailed = d.1 ∙ none })
    (λ (rose : Rose before.faults after.faults). absurd (let r = subst (λ n. Rose n after.faults) none rose in omega (arith, few, r)))
    served.done

end_of_door : (before after : GearState) → IsUnused before → HasServedAll before after → IsEndOfDoor after
end_of_door before after unused served = by (has_failed after) refl
  where
    by : (failed : Bool) → has_failed after ≡ failed → IsEndOfDoor after
    by true is = inl is
    by false is = inr (one_used_up before after unused served is)

pub ends_of_doors : (before after : List GearState) → All IsUnused before → HaveServedAll before after → All IsEndOfDoor after
ends_of_doors [] [] unused served = All-nil IsEndOfDoor
ends_of_doors [] (a ∷ after) unused served = absurd served
ends_of_doors (b ∷ before) [] unused served = absurd served
ends_of_doors (b ∷ before) (a ∷ after) unused served =
    All-cons IsEndOfDoor a after
    (end_of_door b a (unused 0 b (omega arith)) served.0)
    (ends_of_doors before after (λ k d lt. unused (suc k) d (omega (arith, lt))) served.1)

pub used_up : (before after : List GearState) → All IsUnused before → HaveServedAll before after → list_any has_failed after ≡ false → All IsUsedUp after
used_up [] [] unused served unfailed = All-nil IsUsedUp
used_up [] (a ∷ after) unused served unfailed = absurd served
used_up (b ∷ before) [] unused served unfailed = absurd served
used_up (b ∷ before) (a ∷ after) unused served unfailed =
    let parts = or_parts (has_failed a) (list_any has_failed after) unfailed in
    All-cons IsUsedUp a after
    (one_used_up b a (unused 0 b (omega arith)) served.0 parts.0)
    (used_up before after (λ k d lt. unused (suc k) d (omega (arith, lt))) served.1 parts.1)
