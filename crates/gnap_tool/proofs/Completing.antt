-- A command of which nothing went wrong was carried out, unless memory ran out.
use Rattle.std.proofs.Common.{◌≡◌, ◌∙◌, ℕ, ◌<◌, List, [], ◌∷◌, ◌++◌, length, refl, ap, subst, arith, append_assoc, ◌⊎◌, inl, inr}
use Rattle.std.specs.Prelude.{Option, Some, None, IsSome, drop, slice_get, Result, Ok, Err}
use Rattle.std.proofs.Math.Seq.{drop-append_seam}
use Rattle.outside.specs.Outside.{Told, Served, IsRest}
use Rattle.outside.specs.declared.world.WorldFault.{WorldFault}
use Rattle.outside.specs.declared.world.WorldFault.TheVariants as faults
use Rattle.outside.specs.Links.{LinkState}
use Rattle.outside.specs.Worlds.{WorldState}
use Rattle.outside.specs.declared.world.Opening.{Opening}
use Rattle.outside.specs.Openings.{new_files}
use Rattle.resource_server.specs.declared.setup.RsSetup.{RsSetup}
use Rattle.rs_edge.specs.GuardedSteps.{GuardsKeeping}
use Rattle.command_inputs.specs.declared.ended.Ended.{Ended}
use Rattle.command_inputs.specs.declared.ended.Ended.TheVariants.{Done, NoSetup, Failed, WriteFault, Memory, Refused, TooLong}
use Rattle.command_inputs.specs.declared.ended.WrongSetup.{WrongSetup}
use Rattle.command_inputs.specs.Configs.{setup_in}
use Rattle.command_inputs.specs.Ends.{CountsWrites, Took, status_of}
use Rattle.world_uses.specs.Uses.{Over, Unopened, Linked, BySetup, Follows, UsesWorld, ended_service}
use Rattle.world_uses.proofs.AfterConfig.{some_rest}
use Rattle.command_words.specs.declared.command.Command.{Command}
use Rattle.command_words.specs.declared.command.Command.TheVariants.{Replay, Field, Sign, Verify, Serve, Rs, Client, Hash, Load}
use Rattle.command_words.specs.declared.command.Service.{Service}
use Rattle.command_words.specs.declared.command.Service.TheVariants.{Grants, Derivations, Sets}
use Rattle.command_words.specs.declared.command.ServedSetup.{ServedSetup}
use Rattle.gnap_tool.specs.Openings.{openings_of, input_place}
use Rattle.gnap_tool.specs.Configs.{client_config_in, rs_setup_in, pairs_in}
use Rattle.gnap_tool.specs.Runs.{ServesSo, ServesBy, ServesGuarded, ServesRs, CarriesOut}
use Rattle.gnap_tool.specs.Completeness.{ReadsAs, HoldsAt, ServiceHasSetup, HasItsSetup, NothingWentWrong, IsCompleted}

-- ---- what was opened

module _ (before after : WorldState) where
  placed : (files : List Served) → after.files ≡ before.files ++ files → new_files before after ≡ files
  placed files are = ap (drop (length before.files)) are ∙ drop-append_seam before.files files

  first_placed : (file : Served) (more : List Served) → after.files ≡ before.files ++ file ∷ more → slice_get (new_files before after) 0 ≡ Some file
  first_placed file more are = ap (λ (fs : List Served). slice_get fs 0) (placed (file ∷ more) are)

  second_placed : (first second : Served) → after.files ≡ before.files ++ first ∷ second ∷ [] → slice_get (new_files before after) 1 ≡ Some second
  second_placed first second are = ap (λ (fs : List Served). slice_get fs 1) (placed (first ∷ second ∷ []) are)

one_after_another : (before between after : WorldState) (first second : Served) → between.files ≡ before.files ++ first ∷ []
    → after.files ≡ between.files ++ second ∷ []
    → after.files ≡ before.files ++ first ∷ second ∷ []
one_after_another before between after first second one two =
    two ∙ ap (λ (fs : List Served). fs ++ second ∷ []) one ∙ append_assoc before.files (first ∷ []) (second ∷ [])

-- ---- no setup

setup_apart : (why : WrongSetup) → (NoSetup why ≡ Failed) ⊎ (NoSetup why ≡ Memory) → ⊥
setup_apart why (inl is) = absurd cc
setup_apart why (inr is) = absurd cc

service_apart : (why : WrongSetup) (answer : Result (Unit {0}) WorldFault) → NoSetup why ≡ ended_service answer → ⊥
service_apart why (Ok done) is = absurd cc
service_apart why (Err faults.Failed) is = absurd cc
service_apart why (Err faults.OutOfMemory) is = absurd cc

module _ (why : WrongSetup) (before after : WorldState) (out out_now : Told) where
  -- what isn't so of a file that was opened
  no_file : (text : Option (List ℕ)) (P : List ℕ → List ℕ → Type 0) → ((taken rest : List ℕ) → P taken rest → ⊥)
      → Over text before after (Unopened out out_now (NoSetup why)) P → ⊥
  no_file text P none (inl missing) = setup_apart why missing.1.1
  no_file text P none (inr is) = let rest = some_rest is.0.told in none is.0.told.taken rest.0 (is.3 rest.0 rest.1)

  serves_apart : (IsServed : Result (Unit {0}) WorldFault → Type 0) → ServesSo IsServed before after (NoSetup why) → ⊥
  serves_apart IsServed (inl none) = setup_apart why none.1
  serves_apart IsServed (inr is) = service_apart why is.0 is.1

  guarded_apart : {K : Type 0} (guards : GuardsKeeping K) (first : K) (setup : RsSetup) (listen server : List ℕ) (quota : ℕ)
      → ServesGuarded guards first setup listen server quota before after (NoSetup why) → ⊥
  guarded_apart guards first setup listen server quota (inl none) = setup_apart why none.1
  guarded_apart guards first setup listen server quota (inr is) = service_apart why is.1 is.2

  rs_apart : (setup : RsSetup) (listen server : List ℕ) (quota : ℕ) (cache : Option ℕ) → ServesRs setup listen server quota cache before after (NoSetup why) → ⊥
  rs_apart setup listen server quota None serves = guarded_apart _ tt setup listen server quota serves
  rs_apart setup listen server quota (Some capacity) serves = guarded_apart _ _ setup listen server quota serves.0

  -- The first file reads as a setup, by which nothing that follows ends without one.
  module _ {S : Type 0} (read : List ℕ → Option S) (text : Option (List ℕ)) (Then : WorldState → S → Type 0)
      (none : (config : Served) (between : WorldState) (setup : S) → between.files ≡ before.files ++ config ∷ [] → ReadsAs read config setup
      → Then between setup → ⊥)
      (holds : (config : Served) → after.files ≡ before.files ++ config ∷ [] → (setup : S) × ReadsAs read config setup) where
    no_follower : (config : Served) (between : WorldState) → between.files ≡ before.files ++ config ∷ []
        → ((rest : List ℕ) → IsRest config.told rest
        → Follows (read (config.told.taken ++ rest)) config.told.taken between after out out_now (NoSetup why) (Then between))
        → (rest : List ℕ) → IsRest config.told rest → (reading : Option S) → read (config.told.taken ++ rest) ≡ reading
        → Follows reading config.told.taken between after out out_now (NoSetup why) (Then between) → ⊥
    no_follower config between one each rest known (Some setup) reads follows = none config between setup one (rest, known, reads) follows
    no_follower config between one each rest known None reads follows =
        let held = holds config (ap (λ (w : WorldState). w.files) follows.0 ∙ one) in
        let F : Option S → Type 0 = λ o. Follows o config.told.taken between after out out_now (NoSetup why) (Then between) in
        none config between held.0 one held.1 (subst F held.1.2 (each held.1.0 held.1.1))

    no_by_setup : BySetup read text before after out out_now (NoSetup why) Then → ⊥
    no_by_setup (inl missing) = setup_apart why missing.1.1
    no_by_setup (inr is) =
        let rest = some_rest is.0.told in
        no_follower is.0 is.1 is.2 is.4 rest.0 rest.1 (read (is.0.told.taken ++ rest.0)) refl (is.4 rest.0 rest.1)

-- the first file that was opened holds what it has to
first_holds : {S : Type 0} (read : List ℕ → Option S) (before after : WorldState) → HoldsAt 0 read before after → (config : Served)
    → after.files ≡ before.files ++ config ∷ [] → (setup : S) × ReadsAs read config setup
first_holds read before after holds config are = holds config (first_placed before after config [] are)

no_service : (why : WrongSetup) (service : Service) (served : ServedSetup) (text : List ℕ → Option (List ℕ)) (before after : WorldState) (out out_now : Told)
    → ServiceHasSetup service before after
    → BySetup setup_in (text served.config) before after out out_now (NoSetup why)
    (λ between setup. ServesBy service setup served text between after out out_now (NoSetup why)) → ⊥
no_service why Grants served text before after out out_now holds carried =
    no_by_setup why before after out out_now setup_in (text served.config) _
    (λ config between setup one reads serves. serves_apart why between after out out_now _ serves.1)
    (first_holds setup_in before after holds) carried
no_service why Sets served text before after out out_now holds carried =
    no_by_setup why before after out out_now setup_in (text served.config) _
    (λ config between setup one reads serves. serves_apart why between after out out_now _ serves.1)
    (first_holds setup_in before after holds) carried
no_service why (Derivations pairs) served text before after out out_now holds carried =
    no_by_setup why before after out out_now setup_in (text served.config) _
    (λ config between setup one reads serves.
    no_by_setup why between after out out_now (pairs_in setup) (text pairs) _
    (λ file opened known two read derives. serves_apart why opened after out out_now _ derives.1)
    (λ file two.
    let both = one_after_another before between after config file one two in
    holds.1 config setup (first_placed before after config (file ∷ []) both) reads file (second_placed before after config file both))
    serves)
    (first_holds setup_in before after holds.0) carried

-- a command whose setup is one doesn't end without a setup
has_setup : (why : WrongSetup) (command : Command) (text : List ℕ → Option (List ℕ)) (before after : WorldState) (out out_now : Told)
    → HasItsSetup command before after → CarriesOut command text before after out out_now (NoSetup why) → ⊥
has_setup why (Replay file) text before after out out_now holds (inl missing) = setup_apart why missing.1.1
has_setup why (Replay file) text before after out out_now holds (inr is) =
    let held = holds is.0 (first_placed before after is.0 [] is.1) in
    ((is.3 held.1.0 held.1.1).by_setup held.0 held.1.2).one.each.0.ends
has_setup why (Field kind file) text before after out out_now holds carried = no_file why before after out out_now _ _ (λ taken rest prints. prints.ends)
    carried
has_setup why (Sign config key created file _) text before after out out_now holds carried =
    no_by_setup why before after out out_now setup_in (text config) _
    (λ first between setup one reads over. no_file why between after out out_now _ _ (λ taken rest prints. prints.ends) over)
    (first_holds setup_in before after holds) carried
has_setup why (Verify config now file) text before after out out_now holds carried =
    no_by_setup why before after out out_now setup_in (text config) _
    (λ first between setup one reads over. no_file why between after out out_now _ _ (λ taken rest prints. prints.ends) over)
    (first_holds setup_in before after holds) carried
has_setup why (Serve service served) text before after out out_now holds carried = no_service why service served text before after out out_now holds carried
has_setup why (Rs config listen server quota cache) text before after out out_now holds carried =
    no_by_setup why before after out out_now rs_setup_in (text config) _
    (λ first between setup one reads serves. rs_apart why between after out out_now setup listen server quota cache serves.1)
    (first_holds rs_setup_in before after holds) carried
has_setup why (Client config address script) text before after out out_now holds carried =
    no_by_setup why before after out out_now client_config_in (text config) _
    (λ first between parts one reads linked. elim linked [
      | inl missing ↦ setup_apart why missing.1.1
      | inr is ↦ no_script why is.1 after out out_now _ _ (λ taken rest runs. runs.2.ends) is.4
    ])
    (first_holds client_config_in before after holds) carried
  where
    no_script : (why : WrongSetup) (opened after : WorldState) (out out_now : Told) (text : Option (List ℕ)) {A : Type 0} (P : List ℕ → List ℕ → Type 0)
        → ((taken rest : List ℕ) → P taken rest → ⊥) → Over text opened after (Unopened out out_now (NoSetup why) × A) P → ⊥
    no_script why opened after out out_now text P none (inl missing) = setup_apart why missing.1.0.1
    no_script why opened after out out_now text P none (inr is) = let rest = some_rest is.0.told in none is.0.told.taken rest.0 (is.3 rest.0 rest.1)
has_setup why (Hash texts) text before after out out_now holds carried = carried.1.0.ends
has_setup why (Load grants start workers) text before after out out_now holds carried = carried.1.0.ends

-- ---- no file that is too long

none_limited : IsSome {T = ℕ} None → ⊥
none_limited is = absurd cc

long_apart : (TooLong ≡ Failed) ⊎ (TooLong ≡ Memory) → ⊥
long_apart (inl is) = absurd cc
long_apart (inr is) = absurd cc

module _ (before after : WorldState)
    (short : (place : ℕ) (file : Served) → slice_get (new_files before after) place ≡ Some file → length file.told.taken < 1073741824) where
  took_less : (place : ℕ) (file : Served) → slice_get (new_files before after) place ≡ Some file → Took TooLong file.told → ⊥
  took_less place file found took = let less = short place file found in omega (arith, less, took)

  -- the input is the one file of the command
  one_file : (openings : List Opening) (out out_now : Told) (text : Option (List ℕ)) (P : List ℕ → List ℕ → Type 0)
      → UsesWorld openings (Some 0) before after TooLong
      → Over text before after (Unopened out out_now TooLong) P → ⊥
  one_file openings out out_now text P uses (inl missing) = long_apart missing.1.1
  one_file openings out out_now text P uses (inr is) = let found = first_placed before after is.0 [] is.1 in took_less 0 is.0 found
      (uses.took 0 refl is.0 found)

  -- it is the second one, behind the setup
  second_file : {A : Type 0} (openings : List Opening) (out out_now : Told) (text : Option (List ℕ)) (P : List ℕ → List ℕ → Type 0) (config : Served)
      (between opened : WorldState)
      → UsesWorld openings (Some 1) before after TooLong → between.files ≡ before.files ++ config ∷ [] → opened.files ≡ between.files
      → Over text opened after (Unopened out out_now TooLong × A) P → ⊥
  second_file openings out out_now text P config between opened uses one same (inl missing) = long_apart missing.1.0.1
  second_file openings out out_now text P config between opened uses one same (inr is) =
      let both = one_after_another before between after config is.0 one (is.1 ∙ ap (λ (fs : List Served). fs ++ is.0 ∷ []) same) in
      let found = second_placed before after config is.0 both in
      took_less 1 is.0 found (uses.took 1 refl is.0 found)

  linked_file : {A : LinkState → Type 0} (openings : List Opening) (out out_now : Told) (text : Option (List ℕ)) (P : LinkState → List ℕ → List ℕ → Type 0)
      (config : Served) (between : WorldState) → UsesWorld openings (Some 1) before after TooLong → between.files ≡ before.files ++ config ∷ []
      → Linked between after (Unopened out out_now TooLong) (λ link opened. Over text opened after (Unopened out out_now TooLong × A link) (P link)) → ⊥
  linked_file openings out out_now text P config between uses one (inl missing) = long_apart missing.1.1
  linked_file openings out out_now text P config between uses one (inr is) =
      second_file openings out out_now text (P is.0) config between is.1 uses one is.2 is.4

  -- what stands behind a setup ends by no limit but that of its own input
  behind_setup : {S : Type 0} (read : List ℕ → Option S) (out out_now : Told) (text : Option (List ℕ)) (Then : WorldState → S → Type 0)
      → ((config : Served) (between : WorldState) (setup : S) → between.files ≡ before.files ++ config ∷ [] → Then between setup → ⊥)
      → BySetup read text before after out out_now TooLong Then → ⊥
  behind_setup read out out_now text Then none (inl missing) = long_apart missing.1.1
  behind_setup {S} read out out_now text Then none (inr is) = let rest = some_rest is.0.told in at (read (is.0.told.taken ++ rest.0)) (is.4 rest.0 rest.1)
    where
      at : (reading : Option S) → Follows reading is.0.told.taken is.1 after out out_now TooLong (Then is.1) → ⊥
      at (Some setup) follows = none is.0 is.1 setup is.2 follows
      at None follows = follows.2

  fits : (command : Command) (text : List ℕ → Option (List ℕ)) (out out_now : Told) → UsesWorld (openings_of command) (input_place command) before after TooLong
      → CarriesOut command text before after out out_now TooLong → ⊥
  fits (Replay file) text out out_now uses carried = one_file _ out out_now (text file) _ uses carried
  fits (Field kind file) text out out_now uses carried = one_file _ out out_now (text file) _ uses carried
  fits (Sign config key created file _) text out out_now uses carried = none_limited (uses.limited refl)
  fits (Verify config now file) text out out_now uses carried = none_limited (uses.limited refl)
  fits (Serve service served) text out out_now uses carried = none_limited (uses.limited refl)
  fits (Rs config listen server quota cache) text out out_now uses carried = none_limited (uses.limited refl)
  fits (Client config address script) text out out_now uses carried =
      behind_setup client_config_in out out_now (text config) _
      (λ first between parts one linked. linked_file _ out out_now (text script) _ first between uses one linked) carried
  fits (Hash texts) text out out_now uses carried = none_limited (uses.limited refl)
  fits (Load grants start workers) text out out_now uses carried = none_limited (uses.limited refl)

-- ---- how it ended

pub completes : (command : Command) (text : List ℕ → Option (List ℕ)) (before after : WorldState) (out out_now : Told) (count count_now : ℕ) (ended : Ended)
    → CarriesOut command text before after out out_now ended → UsesWorld (openings_of command) (input_place command) before after ended
    → CountsWrites ended count count_now
    → NothingWentWrong command before after count count_now → IsCompleted (status_of ended)
completes command text before after out out_now count count_now Done carried uses writes right = inl refl
completes command text before after out out_now count count_now Refused carried uses writes right = inr (inl refl)
completes command text before after out out_now count count_now Memory carried uses writes right = inr (inr refl)
completes command text before after out out_now count count_now Failed carried uses writes right = absurd (right.reads (uses.failed refl))
completes command text before after out out_now count count_now WriteFault carried uses writes right = absurd (right.writes writes)
completes command text before after out out_now count count_now (NoSetup why) carried uses writes right = absurd
    (has_setup why command text before after out out_now right.setup carried)
completes command text before after out out_now count count_now TooLong carried uses writes right = absurd
    (fits before after right.short command text out out_now uses carried)
