-- What a command does to the world with one file, and what that says of its status.
use Rattle.std.proofs.Common.{◌≡◌, ◌≢◌, ◌∙◌, ℕ, ◌<◌, List, [], ◌∷◌, ◌++◌, length, refl, ap, sym, subst, arith, ◌⊎◌, inl, inr}
use Rattle.std.specs.Prelude.{true, false, is_some, Option, Some, None, IsSome, All, Any, drop, slice_get}
use Rattle.std.proofs.Math.Seq.{drop-length, drop-append_seam}
use Rattle.std.proofs.lemmas.List.Elements.{All-nil, All-push}
use Rattle.std.proofs.lemmas.List.Quantifiers.{Any-push}
use Rattle.std.proofs.lemmas.Option.{slice_get_within}
use Rattle.outside.specs.declared.world.Opening.{Opening}
use Rattle.outside.specs.declared.world.WorldFault.{WorldFault}
use Rattle.outside.specs.declared.world.WorldFault.TheVariants as faults
use Rattle.outside.specs.declared.world.Opening.TheVariants.{File}
use Rattle.outside.specs.Outside.{Told, Served, IsAtEnd, IsRest, Leaves, Rose, untouched}
use Rattle.outside.specs.Worlds.{WorldState, HasWorldCause, with_opened, with_returned}
use Rattle.outside.specs.Openings.{Gives, GivesBack, gears_in, new_files}
use Rattle.outside.proofs.OpeningLemmas.{gives-none, gives-file, back-all}
use Rattle.command_inputs.specs.declared.ended.Ended.{Ended}
use Rattle.command_inputs.specs.declared.ended.Ended.TheVariants.{Done, NoSetup, Failed, WriteFault, Memory, Refused, TooLong}
use Rattle.command_inputs.specs.Ends.{CountsReads, Took, status_of}
use Rattle.world_uses.specs.Uses.{Over, ended_by_fault, HasFailed, NothingFailed, InputTook, AreReadToEnd, AllButLast, AreReadBeforeLast, UsesWorld, new_openings}

-- ---- nothing was opened

pub back-none : (openings : List Opening) (before after : WorldState) → after ≡ record before { faults = after.faults } → GivesBack openings before after
back-none openings before after same = record { done = []; rest = openings; whole = refl; gives = gives-none before after same }

files_none : (before after : WorldState) → after ≡ record before { faults = after.faults } → new_files before after ≡ []
files_none before after same = ap (λ (s : WorldState). drop (length before.files) s.files) same ∙ drop-length before.files

openings_none : (before after : WorldState) → after ≡ record before { faults = after.faults } → new_openings before after ≡ []
openings_none before after same = ap (λ (s : WorldState). drop (length before.opened) s.opened) same ∙ drop-length before.opened

no_gears : (openings : List Opening) → gears_in openings ≡ None → IsSome (gears_in openings) → ⊥
no_gears openings none some = let no : false ≡ true = subst (λ (o : Option ℕ). is_some o ≡ true) none some in absurd cc

pub unopened_sound : (before after : WorldState) → after ≡ record before { faults = after.faults } → after.faults ≡ before.faults → NothingFailed before after
unopened_sound before after same count = record {
  world = count;
  files = subst (All (λ (file : Served). file.faults ≡ 0)) (sym (files_none before after same)) (All-nil (λ (file : Served). file.faults ≡ 0));
  doors = λ some. absurd (no_gears (new_openings before after) (ap gears_in (openings_none before after same)) some);
}

-- no file was opened, or just one
pub no_file_at : (files : List Served) (place : ℕ) (file : Served) → files ≡ [] → slice_get files place ≡ Some file → ⊥
no_file_at files place file none found =
    let within : place < 0 = slice_get_within [] place file (ap (λ (fs : List Served). slice_get fs place) (sym none) ∙ found) in
    absurd (omega (arith, within))

pub one_file_at : (files : List Served) (place : ℕ) (file other : Served) → files ≡ file ∷ [] → slice_get files place ≡ Some other → file ≡ other
one_file_at files place file other one found =
    let shown : slice_get (file ∷ []) place ≡ Some other = ap (λ (fs : List Served). slice_get fs place) (sym one) ∙ found in
    let within : place < length (file ∷ []) = slice_get_within (file ∷ []) place other shown in
    let first : place ≡ 0 = omega (arith, within) in
    let both : Some file ≡ Some other = ap (λ n. slice_get (file ∷ []) n) (sym first) ∙ shown in
    cc

unopened_failed : (openings : List Opening) (input : Option ℕ) (before after : WorldState) → after ≡ record before { faults = after.faults }
    → Rose before.faults after.faults → UsesWorld openings input before after Failed
unopened_failed openings input before after same rose = record {
  given_back = back-none openings before after same;
  all = λ done. elim done [ inl is ↦ absurd cc | inr is ↦ absurd cc ];
  failed = λ is. inl rose;
  sound = λ isnt. absurd (isnt refl);
  took = λ place is file found. absurd (no_file_at (new_files before after) place file (files_none before after same) found);
  limited = λ is. absurd cc;
  to_end = λ is. absurd cc;
  configs = λ is. absurd cc;
}

unopened_starved : (openings : List Opening) (input : Option ℕ) (before after : WorldState) → after ≡ record before { faults = after.faults }
    → after.faults ≡ before.faults → UsesWorld openings input before after Memory
unopened_starved openings input before after same count = record {
  given_back = back-none openings before after same;
  all = λ done. elim done [ inl is ↦ absurd cc | inr is ↦ absurd cc ];
  failed = λ is. absurd cc;
  sound = λ isnt. unopened_sound before after same count;
  took = λ place is file found. tt;
  limited = λ is. absurd cc;
  to_end = λ is. absurd cc;
  configs = λ is. absurd cc;
}

-- the world handed nothing out
by_fault : (openings : List Opening) (input : Option ℕ) (before after : WorldState) (fault : WorldFault) → after ≡ record before { faults = after.faults }
    → HasWorldCause before.faults after.faults fault → UsesWorld openings input before after (ended_by_fault fault)
by_fault openings input before after faults.Failed same cause = unopened_failed openings input before after same cause
by_fault openings input before after faults.OutOfMemory same cause = unopened_starved openings input before after same cause

pub unopened_used : (openings : List Opening) (input : Option ℕ) (before after : WorldState) (fault : WorldFault) (ended : Ended) → ended ≡ ended_by_fault fault
    → after ≡ record before { faults = after.faults } → HasWorldCause before.faults after.faults fault → UsesWorld openings input before after ended
unopened_used openings input before after fault ended is same cause =
    subst (λ (e : Ended). UsesWorld openings input before after e) (sym is) (by_fault openings input before after fault same cause)

pub fault_ends : (fault : WorldFault) (ended : Ended) → ended ≡ ended_by_fault fault → (ended ≡ Failed) ⊎ (ended ≡ Memory)
fault_ends faults.Failed ended is = inl is
fault_ends faults.OutOfMemory ended is = inr is

-- a command that opens nothing, and ended neither by a failed read nor at a limit
pub nothing_used : (world : WorldState) (ended : Ended) → (ended ≡ Done) ⊎ (ended ≡ WriteFault) ⊎ (ended ≡ Memory) → UsesWorld [] None world world ended
nothing_used world ended how = record {
  given_back = back-none [] world world refl;
  all = λ done. gives-none world world refl;
  failed = λ is. absurd (elim how
      [ inl a ↦ (let bad = sym a ∙ is in cc) | inr (inl b) ↦ (let bad = sym b ∙ is in cc) | inr (inr d) ↦ (let bad = sym d ∙ is in cc) ]);
  sound = λ isnt. unopened_sound world world refl refl;
  took = λ place is file found. absurd cc;
  limited = λ is. absurd (elim how
      [ inl a ↦ (let bad = sym a ∙ is in cc) | inr (inl b) ↦ (let bad = sym b ∙ is in cc) | inr (inr d) ↦ (let bad = sym d ∙ is in cc) ]);
  to_end = λ is. subst (All (λ (file : Served). IsAtEnd file.told)) (sym (files_none world world refl)) (All-nil (λ (file : Served). IsAtEnd file.told));
  configs = λ is. subst (AllButLast (λ (file : Served). IsAtEnd file.told)) (sym (files_none world world refl)) tt;
}

-- ---- a file was opened and given back

not_zero : (faults : ℕ) → Rose 0 faults → faults ≢ 0
not_zero faults rose zero = absurd (omega (arith, rose, zero))

counts_zero : (ended : Ended) (faults : ℕ) → ended ≢ Failed → CountsReads ended 0 faults → faults ≡ 0
counts_zero Done faults isnt counts = counts
counts_zero (NoSetup why) faults isnt counts = counts
counts_zero Failed faults isnt counts = absurd (isnt refl)
counts_zero WriteFault faults isnt counts = counts
counts_zero Memory faults isnt counts = counts
counts_zero Refused faults isnt counts = counts
counts_zero TooLong faults isnt counts = counts

module _ (name : List ℕ) (file : Served) (before open_now after : WorldState) (ended : Ended) (open_is : open_now ≡ with_opened (File name) before)
    (back : after ≡ with_returned file open_now) (counts : CountsReads ended 0 file.faults) (input : Option ℕ)
    (took : IsSome input → Took ended file.told) (limited : ended ≡ TooLong → IsSome input) (end : ended ≡ Done → IsAtEnd file.told) where
  files_are : after.files ≡ before.files ++ file ∷ []
  files_are = ap (λ (s : WorldState). s.files) back ∙ ap (λ (s : WorldState). s.files ++ file ∷ []) open_is

  faults_same : after.faults ≡ before.faults
  faults_same = ap (λ (s : WorldState). s.faults) back ∙ ap (λ (s : WorldState). s.faults) open_is

  new_file : new_files before after ≡ file ∷ []
  new_file = ap (drop (length before.files)) files_are ∙ drop-append_seam before.files (file ∷ [])

  opened_are : after.opened ≡ before.opened ++ File name ∷ []
  opened_are = ap (λ (s : WorldState). s.opened) back ∙ ap (λ (s : WorldState). s.opened) open_is

  new_opening : new_openings before after ≡ File name ∷ []
  new_opening = ap (drop (length before.opened)) opened_are ∙ drop-append_seam before.opened (File name ∷ [])

  gives : Gives (File name ∷ []) before after
  gives = gives-file name file before open_now after open_is back

  is_input : (place : ℕ) → input ≡ Some place → IsSome input
  is_input place is = subst (λ (o : Option ℕ). IsSome o) (sym is) refl

  took_at : (files : List Served) (place : ℕ) → files ≡ file ∷ [] → input ≡ Some place → (other : Served) → slice_get files place ≡ Some other
      → Took ended other.told
  took_at files place are is other found = subst (λ (f : Served). Took ended f.told) (one_file_at files place file other are found) (took (is_input place is))

  pub opened_used : UsesWorld (File name ∷ []) input before after ended
  opened_used = record {
    given_back = back-all (File name ∷ []) before after gives;
    all = λ done. gives;
    failed = λ is. inr (inl (subst (Any (λ (f : Served). f.faults ≢ 0)) (sym new_file)
        (Any-push (λ (f : Served). f.faults ≢ 0) [] file (not_zero file.faults (subst (λ (e : Ended). CountsReads e 0 file.faults) is counts)))));
    sound = λ isnt. record {
      world = faults_same;
      files = subst (All (λ (f : Served). f.faults ≡ 0)) (sym new_file)
          (All-push (λ (f : Served). f.faults ≡ 0) [] file (All-nil (λ (f : Served). f.faults ≡ 0)) (counts_zero ended file.faults isnt counts));
      doors = λ some. absurd (no_gears (new_openings before after) (ap gears_in new_opening) some);
    };
    took = λ place is other found. took_at (new_files before after) place new_file is other found;
    limited = limited;
    to_end = λ is. subst (All (λ (f : Served). IsAtEnd f.told)) (sym new_file)
        (All-push (λ (f : Served). IsAtEnd f.told) [] file (All-nil (λ (f : Served). IsAtEnd f.told)) (end is));
    configs = λ is. subst (AllButLast (λ (f : Served). IsAtEnd f.told)) (sym new_file) tt;
  }

-- what was done over it
pub opened_over : (file : Served) (name : List ℕ) (before open_now after : WorldState) (text : Option (List ℕ)) (first : Told) (U : Type 0)
    (P : List ℕ → List ℕ → Type 0)
    → open_now ≡ with_opened (File name) before → after ≡ with_returned file open_now → first ≡ untouched text
    → Leaves file.told.taken first.left file.told.left
    → ((rest : List ℕ) → IsRest file.told rest → P file.told.taken rest) → Over text before after U P
opened_over file name before open_now after text first U P open_is back new leaves does =
    let L : Told → Type 0 = λ told. Leaves file.told.taken told.left file.told.left in
    inr (
      file,
      ap (λ (s : WorldState). s.files) back ∙ ap (λ (s : WorldState). s.files ++ file ∷ []) open_is,
      subst L new leaves,
      does,
    )

-- ---- what statuses say

-- how a command ended that has this status
pub done_at_0 : (ended : Ended) → status_of ended ≡ 0 → ended ≡ Done
done_at_0 Done is = refl
done_at_0 (NoSetup why) is = absurd cc
done_at_0 Failed is = absurd cc
done_at_0 WriteFault is = absurd cc
done_at_0 Memory is = absurd cc
done_at_0 Refused is = absurd cc
done_at_0 TooLong is = absurd cc

stopped_at_4 : (ended : Ended) → status_of ended ≡ 4 → ended ≡ Failed
stopped_at_4 Failed is = refl
stopped_at_4 Done is = absurd cc
stopped_at_4 (NoSetup why) is = absurd cc
stopped_at_4 WriteFault is = absurd cc
stopped_at_4 Memory is = absurd cc
stopped_at_4 Refused is = absurd cc
stopped_at_4 TooLong is = absurd cc

refused_at_7 : (ended : Ended) → status_of ended ≡ 7 → ended ≡ Refused
refused_at_7 Refused is = refl
refused_at_7 Done is = absurd cc
refused_at_7 (NoSetup why) is = absurd cc
refused_at_7 Failed is = absurd cc
refused_at_7 WriteFault is = absurd cc
refused_at_7 Memory is = absurd cc
refused_at_7 TooLong is = absurd cc

too_long_at_8 : (ended : Ended) → status_of ended ≡ 8 → ended ≡ TooLong
too_long_at_8 TooLong is = refl
too_long_at_8 Done is = absurd cc
too_long_at_8 (NoSetup why) is = absurd cc
too_long_at_8 Failed is = absurd cc
too_long_at_8 WriteFault is = absurd cc
too_long_at_8 Memory is = absurd cc
too_long_at_8 Refused is = absurd cc

module _ (openings : List Opening) (input : Option ℕ) (before after : WorldState) (ended : Ended) (uses : UsesWorld openings input before after ended) where
  took_as : (other : Ended) → ended ≡ other → InputTook other input before after
  took_as other same = subst (λ (e : Ended). InputTook e input before after) same uses.took

  pub failed_at_4 : status_of ended ≡ 4 → HasFailed before after
  failed_at_4 is = uses.failed (stopped_at_4 ended is)

  pub full_at_8 : status_of ended ≡ 8 → IsSome input × InputTook TooLong input before after
  full_at_8 is = (uses.limited (too_long_at_8 ended is), took_as TooLong (too_long_at_8 ended is))

  -- as much is taken at 7 as at 0
  pub whole_at_0 : (status_of ended ≡ 0) ⊎ (status_of ended ≡ 7) → InputTook Done input before after
  whole_at_0 is = elim is [ inl zero ↦ took_as Done (done_at_0 ended zero) | inr seven ↦ took_as Refused (refused_at_7 ended seven) ]

  pub to_end_at_0 : status_of ended ≡ 0 → AreReadToEnd before after
  to_end_at_0 is = uses.to_end (done_at_0 ended is)

  pub configs_at_7 : status_of ended ≡ 7 → AreReadBeforeLast before after
  configs_at_7 is = uses.configs (refused_at_7 ended is)

  pub short_at_4 : status_of ended ≡ 4 → InputTook Failed input before after
  short_at_4 is = took_as Failed (stopped_at_4 ended is)
