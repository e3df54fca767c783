-- A command whose first file is its setup.
use Rattle.std.proofs.Common.{◌≡◌, ◌≢◌, ◌∙◌, ℕ, suc, ◌+◌, ◌<◌, ◌≤◌, add-one, List, [], ◌∷◌, ◌++◌, length, refl, ap, sym, subst, arith, append_assoc, length-append, ◌⊎◌, inl, inr}
use Rattle.std.specs.Prelude.{Option, Some, None, IsSome, IfSome, IsOk, All, Any, drop, slice_get, Result, Ok, Err}
use Rattle.std.proofs.Math.Seq.{drop-length, drop-append_seam}
use Rattle.std.proofs.lemmas.List.{get_or-append-add}
use Rattle.std.proofs.lemmas.List.Elements.{All-append}
use Rattle.outside.specs.declared.world.Opening.{Opening}
use Rattle.outside.specs.declared.world.WorldFault.{WorldFault}
use Rattle.outside.specs.declared.world.WorldFault.TheVariants as faults
use Rattle.outside.specs.declared.world.Opening.TheVariants.{File}
use Rattle.outside.specs.Outside.{Told, Served, IsAtEnd, IsRest, Rose}
use Rattle.outside.specs.Worlds.{WorldState}
use Rattle.outside.specs.Openings.{Gives, gears_in, new_files}
use Rattle.outside.proofs.OpeningLemmas.{gives-then, back-then, back-more}
use Rattle.command_inputs.specs.declared.ended.Ended.{Ended}
use Rattle.command_inputs.specs.declared.ended.Ended.TheVariants.{Done, NoSetup, Failed, WriteFault, Memory, Refused, TooLong}
use Rattle.command_inputs.specs.Ends.{CountsWrites}
use Rattle.command_inputs.specs.Configs.{setup_limit, GivesRead}
use Rattle.world_uses.specs.ConfigFiles.{GivesText, GivesConfig, ended_by}
use Rattle.world_uses.specs.Uses.{ended_by_fault, Over, Unopened, HasNoConfig, EndsWithoutConfig, Follows, BySetup, HasFailed, NothingFailed, IsCarriedOut, InputTook, AllButLast, UsesWorld, new_openings}
use Rattle.world_uses.proofs.Uses.{no_file_at, one_file_at}

-- ---- how the reading of a setup ends

-- something may be left
pub some_rest : (told : Told) → (rest : List ℕ) × IsRest told rest
some_rest told = at told.left refl
  where
    at : (left : Option (List ℕ)) → told.left ≡ left → (rest : List ℕ) × IsRest told rest
    at None is = ([], subst (λ (o : Option (List ℕ)). IfSome o (λ l. [] ≡ l)) (sym is) tt)
    at (Some bytes) is = (bytes, subst (λ (o : Option (List ℕ)). IfSome o (λ l. bytes ≡ l)) (sym is) refl)

-- no setup was read
abbrev pub IsStopped : Ended → Type 0
IsStopped (NoSetup why) = Unit {0}
IsStopped Failed = Unit {0}
IsStopped Memory = Unit {0}
IsStopped Done = ⊥
IsStopped WriteFault = ⊥
IsStopped Refused = ⊥
IsStopped TooLong = ⊥

module _ {X S : Type 0} (view : X → S) (read : List ℕ → Option S) where
  gives_stopped : (ended : Ended) (taken rest : List ℕ) → GivesConfig view read (Err ended) taken rest → IsStopped ended
  gives_stopped (NoSetup why) taken rest gives = tt
  gives_stopped Failed taken rest gives = tt
  gives_stopped Memory taken rest gives = tt
  gives_stopped Done taken rest gives = absurd gives
  gives_stopped WriteFault taken rest gives = absurd gives
  gives_stopped Refused taken rest gives = absurd gives
  gives_stopped TooLong taken rest gives = absurd gives

  read_stopped : (ended : Ended) (told : Told) → ((rest : List ℕ) → IsRest told rest → GivesConfig view read (Err ended) told.taken rest) → IsStopped ended
  read_stopped ended told gives = let rest = some_rest told in gives_stopped ended told.taken rest.0 (gives rest.0 rest.1)

text_stopped : (ended : Ended) (taken rest : List ℕ) → GivesText (Err ended) taken rest → IsStopped ended
text_stopped (NoSetup why) taken rest gives = tt
text_stopped Failed taken rest gives = tt
text_stopped Memory taken rest gives = tt
text_stopped Done taken rest gives = absurd gives
text_stopped WriteFault taken rest gives = absurd gives
text_stopped Refused taken rest gives = absurd gives
text_stopped TooLong taken rest gives = absurd gives

unread_stopped : (ended : Ended) (told : Told) → ((rest : List ℕ) → IsRest told rest → GivesText (Err ended) told.taken rest) → IsStopped ended
unread_stopped ended told gives = let rest = some_rest told in text_stopped ended told.taken rest.0 (gives rest.0 rest.1)

not_opened : {X : Type 0} (ended : Ended) → HasNoConfig {X = X} (Err ended) → (ended ≡ Failed) ⊎ (ended ≡ Memory)
not_opened ended (inl is) = inl cc
not_opened ended (inr is) = inr cc

pub unopened_config : {X : Type 0} (fault : WorldFault) (ended : Ended) → ended ≡ ended_by_fault fault → HasNoConfig {X = X} (Err ended)
unopened_config faults.Failed ended is = inl (ap Err is)
unopened_config faults.OutOfMemory ended is = inr (ap Err is)

unopened_stopped : (ended : Ended) → (ended ≡ Failed) ⊎ (ended ≡ Memory) → IsStopped ended
unopened_stopped ended (inl is) = subst IsStopped (sym is) tt
unopened_stopped ended (inr is) = subst IsStopped (sym is) tt

module _ {X S : Type 0} (view : X → S) (read : List ℕ → Option S) (text : Option (List ℕ)) (before between : WorldState) where
  stopped : (ended : Ended) → Over text before between (HasNoConfig {X = X} (Err ended)) (GivesConfig view read (Err ended)) → IsStopped ended
  stopped ended (inl missing) = unopened_stopped ended (not_opened {X = X} ended missing.1)
  stopped ended (inr is) = read_stopped view read ended is.0.told is.3

stopped_writes : (ended : Ended) (faults : ℕ) → IsStopped ended → CountsWrites ended faults faults
stopped_writes (NoSetup why) faults stop = refl
stopped_writes Failed faults stop = refl
stopped_writes Memory faults stop = refl
stopped_writes Done faults stop = absurd stop
stopped_writes WriteFault faults stop = absurd stop
stopped_writes Refused faults stop = absurd stop
stopped_writes TooLong faults stop = absurd stop

not_done : (ended : Ended) → IsStopped ended → IsCarriedOut ended → ⊥
not_done ended stop (inl is) = subst IsStopped is stop
not_done ended stop (inr is) = subst IsStopped is stop

-- the reading of a text ends by no limit
pub config_unlimited : (result : Result (List ℕ) Ended) (told : Told) → ((rest : List ℕ) → IsRest told rest → GivesText result told.taken rest)
    → ended_by result ≢ TooLong
config_unlimited (Ok text) told gives = λ is. absurd cc
config_unlimited (Err ended) told gives = λ is. subst IsStopped is (unread_stopped ended told gives)

-- and where it ends well, the file was read to its end
pub config_to_end : (result : Result (List ℕ) Ended) (told : Told) → ((rest : List ℕ) → IsRest told rest → GivesText result told.taken rest)
    → (IsOk result → IsAtEnd told) → ended_by result ≡ Done → IsAtEnd told
config_to_end (Ok text) told gives end is = end refl
config_to_end (Err ended) told gives end is = absurd (subst IsStopped is (unread_stopped ended told gives))

-- ---- what the text reads as

no_config_at : {X : Type 0} (x : X) → HasNoConfig (Ok x) → ⊥
no_config_at x (inl is) = absurd cc
no_config_at x (inr is) = absurd cc

still_none : {X Y : Type 0} (ended : Ended) → HasNoConfig {X = X} (Err ended) → HasNoConfig {X = Y} (Err ended)
still_none ended (inl is) = inl (let same : ended ≡ Failed = cc in ap Err same)
still_none ended (inr is) = inr (let same : ended ≡ Memory = cc in ap Err same)

module _ {X S : Type 0} (view : X → S) (read : List ℕ → Option S) where
  gives_read : (result : Result X Ended) (text taken rest : List ℕ) → text ≡ taken ++ rest → GivesRead view result (read text)
      → GivesConfig view read result taken rest
  gives_read (Ok x) text taken rest is gives = ap read (sym is) ∙ gives
  gives_read (Err (NoSetup why)) text taken rest is gives = ap read (sym is) ∙ gives
  gives_read (Err Memory) text taken rest is gives = tt
  gives_read (Err Done) text taken rest is gives = absurd gives
  gives_read (Err Failed) text taken rest is gives = absurd gives
  gives_read (Err WriteFault) text taken rest is gives = absurd gives
  gives_read (Err Refused) text taken rest is gives = absurd gives
  gives_read (Err TooLong) text taken rest is gives = absurd gives

  -- a text that is too long for a setup reads as none
  gives_unread : ((text : List ℕ) → setup_limit < length text → read text ≡ None) → (ended : Ended) (taken rest : List ℕ) → GivesText (Err ended) taken rest
      → GivesConfig view read (Err ended) taken rest
  gives_unread long (NoSetup why) taken rest gives = long (taken ++ rest) gives
  gives_unread long Memory taken rest gives = tt
  gives_unread long Failed taken rest gives = gives
  gives_unread long Done taken rest gives = absurd gives
  gives_unread long WriteFault taken rest gives = absurd gives
  gives_unread long Refused taken rest gives = absurd gives
  gives_unread long TooLong taken rest gives = absurd gives

  module _ (text : Option (List ℕ)) (before between : WorldState) where
    -- the whole text was read
    pub config_read_as : (whole : List ℕ) (result : Result X Ended) → Over text before between (HasNoConfig (Ok whole)) (GivesText (Ok whole))
        → GivesRead view result (read whole) → Over text before between (HasNoConfig result) (GivesConfig view read result)
    config_read_as whole result (inl missing) gives = absurd (no_config_at whole missing.1)
    config_read_as whole result (inr is) gives = inr (is.0, is.1, is.2, λ rest known. gives_read result whole is.0.told.taken rest (is.3 rest known) gives)

    -- it wasn't
    pub config_unread : ((whole : List ℕ) → setup_limit < length whole → read whole ≡ None) → (ended : Ended)
        → Over text before between (HasNoConfig {X = List ℕ} (Err ended)) (GivesText (Err ended))
        → Over text before between (HasNoConfig {X = X} (Err ended)) (GivesConfig view read (Err ended))
    config_unread long ended (inl missing) = inl (missing.0, still_none ended missing.1)
    config_unread long ended (inr is) = inr (is.0, is.1, is.2, λ rest known. gives_unread long ended is.0.told.taken rest (is.3 rest known))

before_last : (files : List Served) → All (λ (f : Served). IsAtEnd f.told) files → AllButLast (λ (f : Served). IsAtEnd f.told) files
before_last [] all = tt
before_last (file ∷ []) all = tt
before_last (file ∷ next ∷ files) all = (all 0 file (omega arith), before_last (next ∷ files) (λ k d lt. all (suc k) d (omega (arith, lt))))

judged : (openings : List Opening) (before after : WorldState) → UsesWorld openings None before after Done → (ended : Ended) → ended ≢ Failed → ended ≢ TooLong
    → UsesWorld openings None before after ended
judged openings before after uses ended sound unlimited = record {
  given_back = uses.given_back;
  all = λ done. uses.all (inl refl);
  failed = λ is. absurd (sound is);
  sound = λ isnt. uses.sound (λ is. absurd cc);
  took = λ place is file found. absurd cc;
  limited = λ is. absurd (unlimited is);
  to_end = λ is. uses.to_end refl;
  configs = λ is. before_last (new_files before after) (uses.to_end refl);
}

-- what the world saw of a file whose text was read, whatever it reads as
pub uses_read : {X S : Type 0} (view : X → S) (openings : List Opening) (before after : WorldState) (reading : Option S) (result : Result X Ended)
    → UsesWorld openings None before after Done → GivesRead view result reading → UsesWorld openings None before after (ended_by result)
uses_read view openings before after reading (Ok x) uses gives = uses
uses_read view openings before after reading (Err (NoSetup why)) uses gives =
    judged openings before after uses (NoSetup why) (λ is. absurd cc) (λ is. absurd cc)
uses_read view openings before after reading (Err Memory) uses gives = judged openings before after uses Memory (λ is. absurd cc) (λ is. absurd cc)
uses_read view openings before after reading (Err Done) uses gives = absurd gives
uses_read view openings before after reading (Err Failed) uses gives = absurd gives
uses_read view openings before after reading (Err WriteFault) uses gives = absurd gives
uses_read view openings before after reading (Err Refused) uses gives = absurd gives
uses_read view openings before after reading (Err TooLong) uses gives = absurd gives

-- ---- what follows

module _ {X S : Type 0} (view : X → S) (read : List ℕ → Option S) (text : Option (List ℕ)) (before between : WorldState) (Then : WorldState → S → Type 0) where
  -- the setup was read
  pub by_setup_on : (setup : X) (after : WorldState) (out out_now : Told) (ended : Ended)
      → Over text before between (HasNoConfig (Ok setup)) (GivesConfig view read (Ok setup)) → Then between (view setup)
      → BySetup read text before after out out_now ended Then
  by_setup_on setup after out out_now ended (inl missing) follows = absurd (no_config_at setup missing.1)
  by_setup_on setup after out out_now ended (inr is) follows =
      inr (
        is.0,
        between,
        is.1,
        is.2,
        λ rest known.
            subst (λ (o : Option S). Follows o is.0.told.taken between after out out_now ended (Then between)) (sym (is.3 rest known)) follows,
      )

  module _ (out : Told) (ended : Ended) (stops : (ended ≡ Failed) ⊎ (ended ≡ Memory) → (setup : S) → Then between setup) where
    either : (o : Option S) (taken : List ℕ) → (ended ≡ Failed) ⊎ (ended ≡ Memory) → EndsWithoutConfig ended taken
        → Follows o taken between between out out ended (Then between)
    either None taken is ends = (refl, refl, ends)
    either (Some setup) taken is ends = stops is setup

  -- there is none, or it wasn't read
  follows_none : (out : Told) (ended : Ended) (stops : (ended ≡ Failed) ⊎ (ended ≡ Memory) → (setup : S) → Then between setup) (taken rest : List ℕ)
      → GivesConfig view read (Err ended) taken rest → Follows (read (taken ++ rest)) taken between between out out ended (Then between)
  follows_none out (NoSetup why) stops taken rest gives =
      subst (λ (o : Option S). Follows o taken between between out out (NoSetup why) (Then between)) (sym gives) (refl, refl, tt)
  follows_none out Failed stops taken rest gives = either out Failed stops (read (taken ++ rest)) taken (inl refl) gives
  follows_none out Memory stops taken rest gives = either out Memory stops (read (taken ++ rest)) taken (inr refl) tt
  follows_none out Done stops taken rest gives = absurd gives
  follows_none out WriteFault stops taken rest gives = absurd gives
  follows_none out Refused stops taken rest gives = absurd gives
  follows_none out TooLong stops taken rest gives = absurd gives

  pub by_setup_off : (out : Told) (ended : Ended) → ((ended ≡ Failed) ⊎ (ended ≡ Memory) → (setup : S) → Then between setup)
      → Over text before between (HasNoConfig {X = X} (Err ended)) (GivesConfig view read (Err ended)) → BySetup read text before between out out ended Then
  by_setup_off out ended stops (inl missing) = inl (missing.0, (refl, not_opened {X = X} ended missing.1))
  by_setup_off out ended stops (inr is) = inr (is.0, between, is.1, is.2, λ rest known. follows_none out ended stops is.0.told.taken rest (is.3 rest known))

-- ---- a further file

module _ {X S : Type 0} (view : X → S) (read : List ℕ → Option S) (texts : List ℕ → Option (List ℕ)) (config file : List ℕ) (before between : WorldState)
    (out : Told) where
  pub file_on : (later : List ℕ → Option (List ℕ)) (setup : X) (after : WorldState) (out_now : Told) (ended : Ended) (P : S → List ℕ → List ℕ → Type 0)
      → later ≡ texts
      → Over (texts config) before between (HasNoConfig (Ok setup)) (GivesConfig view read (Ok setup))
      → Over (later file) between after (Unopened out out_now ended) (P (view setup))
      → BySetup read (texts config) before after out out_now ended (λ b s. Over (texts file) b after (Unopened out out_now ended) (P s))
  file_on later setup after out_now ended P same over carried =
      let O : (List ℕ → Option (List ℕ)) → Type 0 = λ t. Over (t file) between after (Unopened out out_now ended) (P (view setup)) in
      by_setup_on view read (texts config) before between
      (λ b s. Over (texts file) b after (Unopened out out_now ended) (P s)) setup after out out_now ended over (subst O same carried)

  pub file_off : (ended : Ended) (P : S → List ℕ → List ℕ → Type 0)
      → Over (texts config) before between (HasNoConfig {X = X} (Err ended)) (GivesConfig view read (Err ended))
      → BySetup read (texts config) before between out out ended (λ b s. Over (texts file) b between (Unopened out out ended) (P s))
  file_off ended P over =
      by_setup_off view read (texts config) before between (λ b s. Over (texts file) b between (Unopened out out ended) (P s)) out ended
      (λ is setup. inl (refl, (refl, is))) over

-- ---- the world

-- where it failed, fewer bytes were taken of each file than of an input may be
abbrev pub TookFew : Ended → WorldState → WorldState → Type 0
TookFew ended before after = ended ≡ Failed → (place : ℕ) (file : Served) → slice_get (new_files before after) place ≡ Some file
    → length file.told.taken < 1073741824

took_stopped : (ended : Ended) (input : Option ℕ) (before after : WorldState) → IsStopped ended → TookFew ended before after
    → InputTook ended input before after
took_stopped (NoSetup why) input before after stop few = λ place is file found. tt
took_stopped Failed input before after stop few = λ place is file found. few refl place file found
took_stopped Memory input before after stop few = λ place is file found. tt
took_stopped Done input before after stop few = absurd stop
took_stopped WriteFault input before after stop few = absurd stop
took_stopped Refused input before after stop few = absurd stop
took_stopped TooLong input before after stop few = absurd stop

uses_stopped : (openings more : List Opening) (input : Option ℕ) (before after : WorldState) (ended : Ended) → UsesWorld openings None before after ended
    → IsStopped ended
    → TookFew ended before after → UsesWorld (openings ++ more) input before after ended
uses_stopped openings more input before after ended uses stop few = record {
  given_back = back-more openings more before after uses.given_back;
  all = λ done. absurd (not_done ended stop done);
  failed = uses.failed;
  sound = uses.sound;
  took = took_stopped ended input before after stop few;
  limited = λ is. absurd (subst IsStopped is stop);
  to_end = uses.to_end;
  configs = uses.configs;
}

-- a command whose first file was no configuration
module _ {X S : Type 0} (view : X → S) (read : List ℕ → Option S) (text : Option (List ℕ)) (before between : WorldState) (ended : Ended)
    (config : Over text before between (HasNoConfig {X = X} (Err ended)) (GivesConfig view read (Err ended))) where
  few_taken : Over text before between (HasNoConfig {X = X} (Err ended)) (GivesConfig view read (Err ended)) → TookFew ended before between
  few_taken (inl missing) failed place file found =
      absurd (no_file_at (new_files before between) place file (ap (drop (length before.files)) missing.0 ∙ drop-length before.files) found)
  few_taken (inr is) failed place file found =
      let rest = some_rest is.0.told in
      let few : length is.0.told.taken ≤ 1048576 = subst (λ (e : Ended). GivesConfig view read (Err e) is.0.told.taken rest.0) failed (is.3 rest.0 rest.1) in
      let one : new_files before between ≡ is.0 ∷ [] = ap (drop (length before.files)) is.1 ∙ drop-append_seam before.files (is.0 ∷ []) in
      subst (λ (f : Served). length f.told.taken < 1073741824) (one_file_at (new_files before between) place is.0 file one found) (omega (arith, few))

  pub unread_used : (openings more : List Opening) (input : Option ℕ) → UsesWorld openings None before between ended
      → UsesWorld (openings ++ more) input before between ended
  unread_used openings more input uses =
      uses_stopped openings more input before between ended uses (stopped view read text before between ended config) (few_taken config)

  pub unread_isnt_done : ended ≢ Done
  unread_isnt_done is = not_done ended (stopped view read text before between ended config) (inl is)

  pub unread_writes : (faults : ℕ) → CountsWrites ended faults faults
  unread_writes faults = stopped_writes ended faults (stopped view read text before between ended config)

-- the place of an input behind one file
abbrev pub behind : Option ℕ → Option ℕ
behind None = None
behind (Some place) = Some (place + 1)

behind_some : (input : Option ℕ) → IsSome input → IsSome (behind input)
behind_some None some = some
behind_some (Some place) some = refl

get-behind : (front back : List Served) (place : ℕ) → length front ≡ 1 → slice_get (front ++ back) (place + 1) ≡ slice_get back place
get-behind [] back place one = absurd (omega (arith, one))
get-behind (file ∷ []) back place one = rw add-one refl
get-behind (file ∷ other ∷ front) back place one = absurd (omega (arith, one))

-- a further file before those that are left
further : (P : Served → Type 0) (file : Served) (back : List Served) → P file → AllButLast P back → AllButLast P (file ∷ back)
further P file [] holds all = tt
further P file (next ∷ back) holds all = (holds, all)

before_last_behind : (P : Served → Type 0) (front back : List Served) → All P front → AllButLast P back → AllButLast P (front ++ back)
before_last_behind P [] back holds all = all
before_last_behind P (file ∷ front) back holds all =
    further P file (front ++ back) (holds 0 file (omega arith)) (before_last_behind P front back (λ k d lt. holds (suc k) d (omega (arith, lt))) all)

any_behind : (front back : List Served) → Any (λ (f : Served). f.faults ≢ 0) back → Any (λ (f : Served). f.faults ≢ 0) (front ++ back)
any_behind front back any =
    let bound = any.2 in
    (length front + any.0, any.1, omega (arith, length-append front back, bound), get_or-append-add front back any.0 any.1 ∙ any.3, any.4)

module _ (name : List ℕ) (before between after : WorldState) (first : UsesWorld (File name ∷ []) None before between Done) where
  opened : Gives (File name ∷ []) before between
  opened = first.all (inl refl)

  nothing : NothingFailed before between
  nothing = first.sound (λ is. absurd cc)

  module _ (more : List Opening) (input : Option ℕ) (ended : Ended) (next : UsesWorld more input between after ended) where
    next_gives : Gives next.given_back.done between after
    next_gives = next.given_back.gives

    all_files : new_files before after ≡ new_files before between ++ new_files between after
    all_files =
        ap (drop (length before.files))
        (next_gives.files_are ∙ ap (λ fs. fs ++ next_gives.files) opened.files_are ∙ append_assoc before.files opened.files next_gives.files)
        ∙ drop-append_seam before.files (opened.files ++ next_gives.files)
        ∙ ap (λ fs. fs ++ next_gives.files) (sym (ap (drop (length before.files)) opened.files_are ∙ drop-append_seam before.files opened.files))
        ∙ ap (λ fs. new_files before between ++ fs)
        (sym (ap (drop (length between.files)) next_gives.files_are ∙ drop-append_seam between.files next_gives.files))

    all_openings : new_openings before after ≡ File name ∷ new_openings between after
    all_openings =
        ap (drop (length before.opened))
        (next_gives.opened ∙ ap (λ os. os ++ next.given_back.done) opened.opened ∙ append_assoc before.opened (File name ∷ []) next.given_back.done)
        ∙ drop-append_seam before.opened (File name ∷ next.given_back.done)
        ∙ ap (λ os. File name ∷ os) (sym (ap (drop (length between.opened)) next_gives.opened ∙ drop-append_seam between.opened next.given_back.done))

    same_gears : gears_in (new_openings before after) ≡ gears_in (new_openings between after)
    same_gears = ap gears_in all_openings

    failed_later : HasFailed between after → HasFailed before after
    failed_later (inl rose) = inl (subst (λ n. Rose n after.faults) nothing.world rose)
    failed_later (inr (inl any)) =
        inr (inl (subst (Any (λ (f : Served). f.faults ≢ 0)) (sym all_files) (any_behind (new_files before between) (new_files between after) any)))
    failed_later (inr (inr doors)) = inr (inr (subst (λ (o : Option ℕ). IsSome o) (sym same_gears) doors.0, doors.1))

    one_file : length (new_files before between) ≡ 1
    one_file = ap length (ap (drop (length before.files)) opened.files_are ∙ drop-append_seam before.files opened.files) ∙ opened.many

    took_behind : (here : Option ℕ) → here ≡ input → InputTook ended (behind here) before after
    took_behind None is place same file found = absurd cc
    took_behind (Some there) is place same file found =
        let at : place ≡ there + 1 = cc in
        let shift : slice_get (new_files before after) (there + 1) ≡ slice_get (new_files between after) there =
        ap (λ (fs : List Served). slice_get fs (there + 1)) all_files
        ∙ get-behind (new_files before between) (new_files between after) there one_file in
        next.took there (sym is) file (sym shift ∙ ap (λ n. slice_get (new_files before after) n) (sym at) ∙ found)

    pub uses_then : UsesWorld (File name ∷ more) (behind input) before after ended
    uses_then = record {
      given_back = back-then (File name ∷ []) more before between after opened next.given_back;
      all = λ done. gives-then (File name ∷ []) more before between after opened (next.all done);
      failed = λ is. failed_later (next.failed is);
      sound = λ isnt. let later = next.sound isnt in record {
        world = later.world ∙ nothing.world;
        files = subst (All (λ (f : Served). f.faults ≡ 0)) (sym all_files)
            (All-append (λ (f : Served). f.faults ≡ 0) (new_files before between) (new_files between after) nothing.files later.files);
        doors = λ some. later.doors (subst (λ (o : Option ℕ). IsSome o) same_gears some);
      };
      took = took_behind input refl;
      limited = λ is. behind_some input (next.limited is);
      to_end = λ is. subst (All (λ (f : Served). IsAtEnd f.told)) (sym all_files)
          (All-append (λ (f : Served). IsAtEnd f.told) (new_files before between) (new_files between after) (first.to_end refl) (next.to_end is));
      configs = λ is. subst (AllButLast (λ (f : Served). IsAtEnd f.told)) (sym all_files)
          (before_last_behind (λ (f : Served). IsAtEnd f.told) (new_files before between) (new_files between after) (first.to_end refl) (next.configs is));
    }
