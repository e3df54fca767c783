-- What serving at an address does to the world.
use Rattle.std.proofs.Common.{◌≡◌, ◌≢◌, ◌∙◌, ℕ, nat_lt, List, [], ◌∷◌, length, refl, ap, sym, subst, ◌⊎◌, inl, inr}
use Rattle.std.specs.Prelude.{true, None, IsSome, IfOk, All, Any, drop, Result, Ok, Err}
use Rattle.std.proofs.Math.Seq.{drop-length, drop-append_seam}
use Rattle.std.proofs.lemmas.List.Elements.{All-nil}
use Rattle.std.proofs.lemmas.List.Folds.{Any-from_list_any}
use Rattle.outside.specs.declared.world.Opening.{Opening}
use Rattle.outside.specs.declared.world.Opening.TheVariants.{Gears}
use Rattle.outside.specs.declared.world.WorldFault.{WorldFault}
use Rattle.outside.specs.declared.world.WorldFault.TheVariants as faults
use Rattle.outside.specs.Outside.{Served, IsAtEnd}
use Rattle.outside.specs.Gears.{GearState, IsUnused}
use Rattle.outside.specs.Worlds.{WorldState, with_opening, with_gears}
use Rattle.outside.specs.Openings.{Gives, gears_in, new_files}
use Rattle.outside.proofs.OpeningLemmas.{gives-gears, back-all}
use Rattle.serving.specs.ServiceEnds.{has_failed, IsUsedUp, IsEndOfService}
use Rattle.command_inputs.specs.declared.ended.Ended.{Ended}
use Rattle.command_inputs.specs.declared.ended.Ended.TheVariants.{Done, Failed, Memory}
use Rattle.world_uses.specs.Uses.{NothingFailed, AllButLast, UsesWorld, ended_service, new_openings}

failed_gear : (gear : GearState) → has_failed gear ≡ true → gear.faults ≢ 0
failed_gear gear is zero = let none : nat_lt 0 0 ≡ true = subst (λ n. nat_lt 0 n ≡ true) zero is in absurd cc

failed_gears : (gears : List GearState) → Any (λ gear. has_failed gear ≡ true) gears → Any (λ (gear : GearState). gear.faults ≢ 0) gears
failed_gears gears any = (any.0, any.1, any.2, any.3, failed_gear any.1 any.4)

unused_unfailed : (gears : List GearState) → All IsUnused gears → All (λ (gear : GearState). gear.faults ≡ 0) gears
unused_unfailed gears unused k d lt = ap (λ (gear : GearState). gear.faults) (unused k d lt)

used_unfailed : (gears : List GearState) → All IsUsedUp gears → All (λ (gear : GearState). gear.faults ≡ 0) gears
used_unfailed gears used k d lt = (used k d lt).unfailed

module _ (address : List ℕ) (n quota : ℕ) (before after : WorldState) (gears : List GearState)
    (back : after ≡ with_gears gears (with_opening (Gears address n quota) before)) (many : length gears ≡ n) where
  gives : Gives (Gears address n quota ∷ []) before after
  gives = gives-gears address n quota gears before (with_opening (Gears address n quota) before) after refl back many

  gears_are : after.gears ≡ gears
  gears_are = ap (λ (s : WorldState). s.gears) back

  no_files : new_files before after ≡ []
  no_files = ap (λ (s : WorldState). drop (length before.files) s.files) back ∙ drop-length before.files

  new_opening : new_openings before after ≡ Gears address n quota ∷ []
  new_opening = ap (λ (s : WorldState). drop (length before.opened) s.opened) back ∙ drop-append_seam before.opened (Gears address n quota ∷ [])

  sound : All (λ (gear : GearState). gear.faults ≡ 0) gears → NothingFailed before after
  sound unfailed = record {
    world = ap (λ (s : WorldState). s.faults) back;
    files = subst (All (λ (file : Served). file.faults ≡ 0)) (sym no_files) (All-nil (λ (file : Served). file.faults ≡ 0));
    doors = λ some. subst (All (λ (gear : GearState). gear.faults ≡ 0)) (sym gears_are) unfailed;
  }

  -- each door gave all its connections, or memory ran out before the first one
  whole : (ended : Ended) → All (λ (gear : GearState). gear.faults ≡ 0) gears → ended ≢ Failed → ((ended ≡ Done) ⊎ (ended ≡ Memory))
      → UsesWorld (Gears address n quota ∷ []) None before after ended
  whole ended unfailed isnt how = record {
    given_back = back-all (Gears address n quota ∷ []) before after gives;
    all = λ done. gives;
    failed = λ is. absurd (isnt is);
    sound = λ no. sound unfailed;
    took = λ place is file found. absurd cc;
    limited = λ is. absurd (elim how [ inl done ↦ (let bad = sym done ∙ is in cc) | inr memory ↦ (let bad = sym memory ∙ is in cc) ]);
    to_end = λ is. subst (All (λ (file : Served). IsAtEnd file.told)) (sym no_files) (All-nil (λ (file : Served). IsAtEnd file.told));
    configs = λ is. subst (AllButLast (λ (file : Served). IsAtEnd file.told)) (sym no_files) tt;
  }

  broken : Any (λ (gear : GearState). gear.faults ≢ 0) gears → UsesWorld (Gears address n quota ∷ []) None before after Failed
  broken any = record {
    given_back = back-all (Gears address n quota ∷ []) before after gives;
    all = λ done. gives;
    failed = λ is. inr (inr (
      subst (λ (os : List Opening). IsSome (gears_in os)) (sym new_opening) refl,
      subst (Any (λ (gear : GearState). gear.faults ≢ 0)) (sym gears_are) any,
    ));
    sound = λ isnt. absurd (isnt refl);
    took = λ place is file found. absurd cc;
    limited = λ is. absurd cc;
    to_end = λ is. absurd cc;
    configs = λ is. absurd cc;
  }

-- what is so where serving went well is so where the command ended well by it
pub done_by : (answer : Result (Unit {0}) WorldFault) (ended : Ended) (P : Type 0) → ended ≡ ended_service answer → IfOk answer (λ _. P) → ended ≡ Done → P
done_by (Ok done) ended P is holds well = holds
done_by (Err faults.Failed) ended P is holds well = absurd (let bad : Failed ≡ Done = sym is ∙ well in cc)
done_by (Err faults.OutOfMemory) ended P is holds well = absurd (let bad : Memory ≡ Done = sym is ∙ well in cc)

pub gears_used : (address : List ℕ) (n quota : ℕ) (before after : WorldState) (gears : List GearState) (answer : Result (Unit {0}) WorldFault)
    → after ≡ with_gears gears (with_opening (Gears address n quota) before) → length gears ≡ n → IsEndOfService gears answer
    → UsesWorld (Gears address n quota ∷ []) None before after (ended_service answer)
gears_used address n quota before after gears (Ok done) back many ended =
    whole address n quota before after gears back many Done (used_unfailed gears ended) (λ is. absurd cc) (inl refl)
gears_used address n quota before after gears (Err faults.Failed) back many ended =
    broken address n quota before after gears back many (failed_gears gears (Any-from_list_any has_failed gears ended.0))
gears_used address n quota before after gears (Err faults.OutOfMemory) back many ended =
    whole address n quota before after gears back many Memory (unused_unfailed gears ended) (λ is. absurd cc) (inr refl)
