-- Gears that were started, served and taken back.
use Rattle.std.proofs.Common.{◌≡◌, ◌∙◌, ℕ, suc, ◌≤◌, List, [], ◌∷◌, map, length, ap, sym, subst, arith}
use Rattle.std.specs.Prelude.{All, Result}
use Rattle.std.proofs.lemmas.List.{length-map}
use Rattle.std.proofs.lemmas.List.Elements.{All-map, All-nil, All-cons}
use Rattle.outside.specs.Outside.{Served}
use Rattle.outside.specs.Gears.{GearState, IsUnused, AreStarted, AreFull}
use Rattle.outside.specs.Worlds.{WorldState, with_opening, with_gears}
use Rattle.outside.specs.declared.world.Opening.TheVariants as opening
use Rattle.outside.specs.declared.world.WorldFault.{WorldFault}
use Rattle.histories.specs.declared.entry.Entry.{Entry}
use Rattle.histories.specs.History.{Law}
use Rattle.histories.specs.Turns.{Turn}
use Rattle.histories.specs.Whole.{OneHistory}
use Rattle.serving.specs.Workers.{HaveServedAll, accounts_of}
use Rattle.serving.specs.ServiceEnds.{IsUsedUp, IsEndOfService, HaveServedJust}
use Rattle.serving.specs.Services.{IsService, served}

none_served : (gear : GearState) → IsUnused gear → length gear.log.served ≡ 0
none_served gear unused = ap (λ (g : GearState). length g.log.served) unused

pub unused_few : (quota : ℕ) (gears : List GearState) → All IsUnused gears → All (λ gear. length gear.log.served ≤ quota) gears
unused_few quota gears unused k d lt = let none = none_served _ (unused k d lt) in omega (arith, none)

-- each gear served at most as many connections as its door could give
served_few : (quota : ℕ) (before after : List GearState) → All IsUnused before → All (λ gear. gear.left ≤ quota) before → HaveServedAll before after
    → All (λ gear. length gear.log.served ≤ quota) after
served_few quota [] [] unused within all = All-nil (λ (gear : GearState). length gear.log.served ≤ quota)
served_few quota [] (a ∷ after) unused within all = absurd all
served_few quota (b ∷ before) [] unused within all = absurd all
served_few quota (b ∷ before) (a ∷ after) unused within all =
    let none = none_served b (unused 0 b (omega arith)) in
    let most = within 0 b (omega arith) in
    let counted = all.0.served in
    All-cons (λ (gear : GearState). length gear.log.served ≤ quota) a after (omega (arith, none, most, counted))
    (served_few quota before after (λ k d lt. unused (suc k) d (omega (arith, lt))) (λ k d lt. within (suc k) d (omega (arith, lt))) all.1)

-- the same of gears that were started for so many connections
pub started_few : {G : Type 0} (state : G → GearState) (n quota : ℕ) (before after : List G) → AreStarted state n quota before
    → HaveServedAll (map state before) (map state after) → All (λ gear. length gear.log.served ≤ quota) (map state after)
started_few state n quota before after started all =
    served_few quota (map state before) (map state after) (All-map IsUnused state before started.unused)
    (All-map (λ gear. gear.left ≤ quota) state before started.within) all

-- each gear whose door could give just so many connections, and gave all of them, served so many
pub served_just : (quota : ℕ) (before after : List GearState) → All IsUnused before → All (λ gear. gear.left ≡ quota) before → HaveServedAll before after
    → All IsUsedUp after → HaveServedJust quota after
served_just quota [] [] unused full all used = All-nil (λ (gear : GearState). length gear.log.served ≡ quota)
served_just quota [] (a ∷ after) unused full all used = absurd all
served_just quota (b ∷ before) [] unused full all used = absurd all
served_just quota (b ∷ before) (a ∷ after) unused full all used =
    let none = none_served b (unused 0 b (omega arith)) in
    let start = full 0 b (omega arith) in
    let counted = all.0.served in
    let left = (used 0 a (omega arith)).left in
    All-cons (λ (gear : GearState). length gear.log.served ≡ quota) a after (omega (arith, none, start, counted, left))
    (served_just quota before after (λ k d lt. unused (suc k) d (omega (arith, lt))) (λ k d lt. full (suc k) d (omega (arith, lt))) all.1
    (λ k d lt. used (suc k) d (omega (arith, lt))))

-- the same of gears that were started, served all, and were taken back
pub taken_back_full : {G : Type 0} (state : G → GearState) (n quota : ℕ) (before after : List G) (last : List GearState) → AreStarted state n quota before
    → AreFull state quota before → HaveServedAll (map state before) (map state after) → All IsUsedUp (map state after)
    → last ≡ map state after → HaveServedJust quota last
taken_back_full state n quota before after last are_started full all used back =
    subst (HaveServedJust quota) (sym back)
    (served_just quota (map state before) (map state after) (All-map IsUnused state before are_started.unused)
    (All-map (λ gear. gear.left ≡ quota) state before full) all used)

module _ {Message Rules Call Reply Note : Type 0} (law : Law Rules Call Reply Note) (rules : Rules)
    (session : Served → List (Turn Message (Entry Call Reply Note)) → Type 0) where
  pub taken_back : {Done G : Type 0} (state : G → GearState) (address : List ℕ) (n quota : ℕ) (result : Result Done WorldFault)
      (before started after : WorldState) (gears : List G) → started ≡ with_opening (opening.Gears address n quota) before
      → after ≡ with_gears (map state gears) started → length gears ≡ n
      → OneHistory law rules (accounts_of session (map state gears)) → All (λ gear. (state gear).out ≡ 0) gears
      → All (λ gear. length gear.log.served ≤ quota) (map state gears) → IsEndOfService (map state gears) result
      → IsService law rules session address n quota before after result
  taken_back state address n quota result before started after gears start back many one out few ended =
      served result (map state gears) (back ∙ ap (with_gears (map state gears)) start) (length-map gears state ∙ many)
      (record { one = one; few = few; out = All-map (λ gear. gear.out ≡ 0) state gears out }) ended
