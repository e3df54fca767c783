-- What a command does to the world while a link is open.
use Rattle.std.proofs.Common.{◌≡◌, ◌≢◌, ◌∙◌, ℕ, List, [], ◌∷◌, ◌++◌, length, ap, sym, subst, append_assoc, inl, inr}
use Rattle.std.specs.Prelude.{Option, IsSome, All, Any, drop, slice_get}
use Rattle.std.proofs.Math.Seq.{drop-append_seam}
use Rattle.outside.specs.declared.world.Opening.{Opening}
use Rattle.outside.specs.declared.world.Opening.TheVariants.{Link}
use Rattle.outside.specs.Outside.{Served, IsAtEnd, Rose}
use Rattle.outside.specs.Gears.{GearState}
use Rattle.outside.specs.Links.{LinkState}
use Rattle.outside.specs.Worlds.{WorldState, with_opening, with_link}
use Rattle.outside.specs.Openings.{gears_in, new_files}
use Rattle.outside.proofs.OpeningLemmas.{gives-around, back-around}
use Rattle.command_inputs.specs.declared.ended.Ended.{Ended}
use Rattle.world_uses.specs.Uses.{Over, Unopened, HasFailed, NothingFailed, AllButLast, UsesWorld, new_openings}

module _ (address : List ℕ) (link : LinkState) (more : List Opening) (input : Option ℕ) (before open_now middle after : WorldState) (ended : Ended)
    (open_is : open_now ≡ with_opening (Link address) before) (inside : UsesWorld more input open_now middle ended) (back : after ≡ with_link link middle) where
  same_files : new_files before after ≡ new_files open_now middle
  same_files =
      ap (λ (s : WorldState). drop (length before.files) s.files) back
      ∙ sym (ap (λ (s : WorldState). drop (length s.files) middle.files) open_is)

  same_gears : after.gears ≡ middle.gears
  same_gears = ap (λ (s : WorldState). s.gears) back

  opened_before : open_now.opened ≡ before.opened ++ Link address ∷ []
  opened_before = ap (λ (s : WorldState). s.opened) open_is

  opened_inside : middle.opened ≡ open_now.opened ++ inside.given_back.done
  opened_inside = inside.given_back.gives.opened

  all_openings : new_openings before after ≡ Link address ∷ new_openings open_now middle
  all_openings =
      ap (λ (s : WorldState). drop (length before.opened) s.opened) back
      ∙ ap (drop (length before.opened))
      (opened_inside ∙ ap (λ os. os ++ inside.given_back.done) opened_before ∙ append_assoc before.opened (Link address ∷ []) inside.given_back.done)
      ∙ drop-append_seam before.opened (Link address ∷ inside.given_back.done)
      ∙ ap (λ os. Link address ∷ os) (sym (ap (drop (length open_now.opened)) opened_inside ∙ drop-append_seam open_now.opened inside.given_back.done))

  same_doors : gears_in (new_openings before after) ≡ gears_in (new_openings open_now middle)
  same_doors = ap gears_in all_openings

  world_before : open_now.faults ≡ before.faults
  world_before = ap (λ (s : WorldState). s.faults) open_is

  world_after : after.faults ≡ middle.faults
  world_after = ap (λ (s : WorldState). s.faults) back

  failed_around : HasFailed open_now middle → HasFailed before after
  failed_around (inl rose) = inl (subst (λ n. Rose n after.faults) world_before (subst (λ n. Rose open_now.faults n) (sym world_after) rose))
  failed_around (inr (inl any)) = inr (inl (subst (Any (λ (f : Served). f.faults ≢ 0)) (sym same_files) any))
  failed_around (inr (inr doors)) = inr (inr (
    subst (λ (o : Option ℕ). IsSome o) (sym same_doors) doors.0,
    subst (Any (λ (gear : GearState). gear.faults ≢ 0)) (sym same_gears) doors.1,
  ))

  sound_around : NothingFailed open_now middle → NothingFailed before after
  sound_around nothing = record {
    world = world_after ∙ nothing.world ∙ world_before;
    files = subst (All (λ (f : Served). f.faults ≡ 0)) (sym same_files) nothing.files;
    doors = λ some. subst (All (λ (gear : GearState). gear.faults ≡ 0)) (sym same_gears) (nothing.doors (subst (λ (o : Option ℕ). IsSome o) same_doors some));
  }

  pub uses_around : UsesWorld (Link address ∷ more) input before after ended
  uses_around = record {
    given_back = back-around address link more before open_now middle after open_is inside.given_back back;
    all = λ done. gives-around address link more before open_now middle after open_is (inside.all done) back;
    failed = λ is. failed_around (inside.failed is);
    sound = λ isnt. sound_around (inside.sound isnt);
    took = λ place is file found. inside.took place is file (ap (λ (fs : List Served). slice_get fs place) (sym same_files) ∙ found);
    limited = inside.limited;
    to_end = λ is. subst (All (λ (f : Served). IsAtEnd f.told)) (sym same_files) (inside.to_end is);
    configs = λ is. subst (AllButLast (λ (f : Served). IsAtEnd f.told)) (sym same_files) (inside.configs is);
  }

-- what was carried out over a file stands while nothing but the link is taken back
pub over_back : (text : Option (List ℕ)) (link : LinkState) (before middle after : WorldState) (Unopened : Type 0) (P : List ℕ → List ℕ → Type 0)
    → after ≡ with_link link middle → Over text before middle Unopened P → Over text before after Unopened P
over_back text link before middle after Unopened P back (inl missing) = inl (ap (λ (s : WorldState). s.files) back ∙ missing.0, missing.1)
over_back text link before middle after Unopened P back (inr is) = inr (is.0, ap (λ (s : WorldState). s.files) back ∙ is.1, is.2, is.3)
