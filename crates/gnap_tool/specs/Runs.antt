-- How a run of a command ends, and what it did.
use Rattle.std.specs.Prelude.{◌≡◌, ◌<◌, ◌^◌, ◌⊎◌, ℕ, List, [], ◌++◌, true, Option, Some, None, IfSome, Result, Ok, Err}
use Rattle.std.specs.Io.BufRead.{strip_last}
use Rattle.std.specs.Option.{option_copied}
use Rattle.message_signature.specs.Marks.{is_nonce}
use Rattle.outside.specs.Outside.{Told}
use Rattle.outside.specs.Worlds.{WorldState}
use Rattle.outside.specs.declared.world.WorldFault.{WorldFault}
use Rattle.as_service.specs.Services.{IsService}
use Rattle.rs_facing.specs.SetServices.{IsSetService}
use Rattle.derivation_requests.specs.Pairs.{Pair}
use Rattle.as_service.specs.DerivedServices.{IsDerivingService}
use Rattle.command_words.specs.declared.command.Command.{Command}
use Rattle.command_words.specs.declared.command.Command.TheVariants.{Replay, Field, Sign, Verify, Serve, Rs, Client, Hash, Load}
use Rattle.command_words.specs.declared.command.Service.{Service}
use Rattle.command_words.specs.declared.command.Service.TheVariants.{Grants, Derivations, Sets}
use Rattle.command_words.specs.declared.command.ServedSetup.{ServedSetup}
use Rattle.gnap_tool.specs.declared.purpose.Purpose.{Purpose}
use Rattle.gnap_tool.specs.declared.purpose.Purpose.TheVariants as purposes
use Rattle.command_inputs.specs.declared.ended.Ended.{Ended}
use Rattle.command_inputs.specs.declared.ended.Ended.TheVariants.{Done, Failed, Memory}
use Rattle.command_inputs.specs.Ends.{status_of}
use Rattle.gnap_tool.specs.Configs.{client_config_in, rs_setup_in, pairs_in}
use Rattle.script_runs.specs.Scripts.{RunsClient}
use Rattle.printed_answers.specs.Fields.{PrintsField}
use Rattle.printed_answers.specs.HashLines.{PrintsHash}
use Rattle.load_lines.specs.LoadLines.{PrintsLoad}
use Rattle.printed_answers.specs.MessageAnswers.{PrintsFor}
use Rattle.call_replay.specs.Replays.{ReplaysFile}
use Rattle.command_inputs.specs.Configs.{setup_in}
use Rattle.resource_server.specs.declared.setup.RsSetup.{RsSetup}
use Rattle.introspection_cache.specs.Caching.{Caches, new_cache}
use Rattle.rs_edge.specs.GuardedSteps.{GuardsKeeping, guards_asking}
use Rattle.rs_edge.specs.RsServices.{IsRsService}
use Rattle.rs_edge.specs.CachedTurns.{AccountsMean}
use Rattle.signed_files.specs.SignedText.{SignsFile}
use Rattle.signed_files.specs.Verdicts.{VerifiesFile}
use Rattle.gnap_model.specs.declared.objects.Setup.{Setup}
use Rattle.gnap_objects.specs.Setups.{IsSetup}
use Rattle.world_uses.specs.Uses.{Over, Unopened, Linked, BySetup, ended_service}

-- What a file is used for, of which these bytes were taken, and which has this rest.
abbrev pub Answers : Purpose → List ℕ → List ℕ → Told → Told → Ended → Type 0
Answers purposes.Replay taken rest out out_now ended = ReplaysFile taken rest out out_now ended
Answers (purposes.Field kind) taken rest out out_now ended = PrintsField kind (strip_last 10 (taken ++ rest)) out out_now ended
Answers (purposes.Sign setup key created nonce) taken rest out out_now ended =
    PrintsFor (SignsFile setup.now key.now created (option_copied nonce) (taken ++ rest)) out out_now ended
Answers (purposes.Verify setup now) taken rest out out_now ended = PrintsFor (VerifiesFile setup.now now (taken ++ rest)) out out_now ended

-- The setup of a purpose is one that was read, and what is signed is created at a moment, with a nonce that can be written.
abbrev pub IsValid : Purpose → Type 0
IsValid purposes.Replay = Unit {0}
IsValid (purposes.Field kind) = Unit {0}
IsValid (purposes.Sign setup key created nonce) = IsSetup setup.now × (created < 10 ^ 15) × IfSome (option_copied nonce) (λ n. is_nonce n ≡ true)
IsValid (purposes.Verify setup now) = Unit {0}

-- where the file of a purpose stands among the inputs that may be too long
abbrev pub input_of : Purpose → Option ℕ
input_of purposes.Replay = Some 0
input_of (purposes.Field kind) = Some 0
input_of (purposes.Sign setup key created _) = None
input_of (purposes.Verify setup now) = None

-- ---- a server at an address

-- Something was to be served. Nothing was opened, for a fault or for want of memory; or it was served as this says, and so the command ended.
abbrev pub ServesSo : (Result (Unit {0}) WorldFault → Type 0) → WorldState → WorldState → Ended → Type 0
ServesSo IsServed before after ended = ((after ≡ before) × ((ended ≡ Failed) ⊎ (ended ≡ Memory)))
    ⊎ ((answer : Result (Unit {0}) WorldFault) × (ended ≡ ended_service answer) × IsServed answer)

-- the grant machine of a setup was to be served at an address
abbrev pub Serves : Setup → ServedSetup → WorldState → WorldState → Ended → Type 0
Serves setup served before after ended = ServesSo (IsService setup served.listen served.workers served.quota before after) before after ended

-- the same, where tokens are derived by these pairs
abbrev pub ServesDeriving : List Pair → Setup → ServedSetup → WorldState → WorldState → Ended → Type 0
ServesDeriving pairs setup served before after ended =
    ServesSo (IsDerivingService pairs setup served.listen served.workers served.quota before after) before after ended

-- the resource sets of a setup
abbrev pub ServesSets : Setup → ServedSetup → WorldState → WorldState → Ended → Type 0
ServesSets setup served before after ended = ServesSo (IsSetService setup served.listen served.workers served.quota before after) before after ended

-- What was to be served of a setup. Pairs are read first, as the setup was.
abbrev pub ServesBy : Service → Setup → ServedSetup → (List ℕ → Option (List ℕ)) → WorldState → WorldState → Told → Told → Ended → Type 0
ServesBy Grants setup served text before after out out_now ended = (out_now ≡ out) × Serves setup served before after ended
ServesBy (Derivations pairs) setup served text before after out out_now ended =
    BySetup (pairs_in setup) (text pairs) before after out out_now ended (λ between known.
    (out_now ≡ out) × ServesDeriving known setup served between after ended)
ServesBy Sets setup served text before after out out_now ended = (out_now ≡ out) × ServesSets setup served before after ended

-- a resource server was to be served whose guard kept this first, with the authorization server at another address
abbrev pub ServesGuarded : {K : Type 0} → GuardsKeeping K → K → RsSetup → List ℕ → List ℕ → ℕ → WorldState → WorldState → Ended → Type 0
ServesGuarded {K} guards first setup listen server quota before after ended = ((after ≡ before) × ((ended ≡ Failed) ⊎ (ended ≡ Memory)))
    ⊎ ((last : K) × (answer : Result (Unit {0}) WorldFault) × (ended ≡ ended_service answer)
    × IsRsService guards setup listen server quota before after first last answer)

-- Without a cache the token of each request is asked about. With one, which is empty first, a reply is kept for a while; and whatever the gear and the link
-- tell of such a service, each request that was let through was so by a reply to the question about its token, which came in its own turn or in an earlier
-- one, at most 30 seconds before (`IsByCache`).
abbrev pub ServesRs : RsSetup → List ℕ → List ℕ → ℕ → Option ℕ → WorldState → WorldState → Ended → Type 0
ServesRs setup listen server quota None before after ended = ServesGuarded guards_asking tt setup listen server quota before after ended
ServesRs setup listen server quota (Some capacity) before after ended =
    ServesGuarded Caches (new_cache capacity) setup listen server quota before after ended × AccountsMean setup capacity

-- ---- the commands

-- What a command carries out.
abbrev pub CarriesOut : Command → (List ℕ → Option (List ℕ)) → WorldState → WorldState → Told → Told → Ended → Type 0
CarriesOut (Replay file) text before after out out_now ended =
    Over (text file) before after (Unopened out out_now ended) (λ taken rest. ReplaysFile taken rest out out_now ended)
CarriesOut (Field kind file) text before after out out_now ended =
    Over (text file) before after (Unopened out out_now ended) (λ taken rest. PrintsField kind (strip_last 10 (taken ++ rest)) out out_now ended)
CarriesOut (Sign config key created file nonce) text before after out out_now ended =
    BySetup setup_in (text config) before after out out_now ended (λ between setup.
    Over (text file) between after (Unopened out out_now ended) (λ taken rest. PrintsFor (SignsFile setup key created nonce (taken ++ rest)) out out_now ended))
CarriesOut (Verify config now file) text before after out out_now ended =
    BySetup setup_in (text config) before after out out_now ended (λ between setup.
    Over (text file) between after (Unopened out out_now ended) (λ taken rest. PrintsFor (VerifiesFile setup now (taken ++ rest)) out out_now ended))
CarriesOut (Serve service served) text before after out out_now ended =
    BySetup setup_in (text served.config) before after out out_now ended (λ between setup.
    ServesBy service setup served text between after out out_now ended)
CarriesOut (Rs config listen server quota cache) text before after out out_now ended =
    BySetup rs_setup_in (text config) before after out out_now ended (λ between setup.
    (out_now ≡ out) × ServesRs setup listen server quota cache between after ended)
CarriesOut (Client config address script) text before after out out_now ended =
    BySetup client_config_in (text config) before after out out_now ended (λ between parts.
    Linked between after (Unopened out out_now ended) (λ link opened.
    Over (text script) opened after (Unopened out out_now ended × (link.asked ≡ [])) (λ taken rest. RunsClient parts taken rest link.asked out out_now ended)))
CarriesOut (Hash texts) text before after out out_now ended = (after ≡ before) × PrintsHash texts out out_now ended
CarriesOut (Load grants start workers) text before after out out_now ended = (after ≡ before) × PrintsLoad grants start workers out out_now ended

-- the same, of the status that says how it ended
pub record Carries (command : Command) (text : List ℕ → Option (List ℕ)) (before after : WorldState) (out out_now : Told) (status : ℕ) : Type 0 where
  pub ended : Ended
  pub status_is : status ≡ status_of ended
  pub carried : CarriesOut command text before after out out_now ended
