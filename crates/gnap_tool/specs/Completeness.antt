-- Where nothing went wrong, a command was carried out.
use Rattle.std.specs.Prelude.{◌≡◌, ◌<◌, ◌⊎◌, ℕ, List, ◌++◌, length, slice_get, Option, Some}
use Rattle.outside.specs.Outside.{Served, IsRest, Rose}
use Rattle.outside.specs.Worlds.{WorldState}
use Rattle.outside.specs.Openings.{new_files}
use Rattle.gnap_model.specs.declared.objects.Setup.{Setup}
use Rattle.command_inputs.specs.Configs.{setup_in}
use Rattle.command_inputs.specs.Lines.{lines_of}
use Rattle.call_replay.specs.Replays.{first_of}
use Rattle.world_uses.specs.Uses.{HasFailed}
use Rattle.command_words.specs.declared.command.Command.{Command}
use Rattle.command_words.specs.declared.command.Command.TheVariants.{Replay, Field, Sign, Verify, Serve, Rs, Client, Hash, Load}
use Rattle.command_words.specs.declared.command.Service.{Service}
use Rattle.command_words.specs.declared.command.Service.TheVariants.{Grants, Derivations, Sets}
use Rattle.gnap_tool.specs.Configs.{client_config_in, rs_setup_in, pairs_in}

-- what was taken of a file, with something that may be left of it, reads as this
abbrev pub ReadsAs : {S : Type 0} → (List ℕ → Option S) → Served → S → Type 0
ReadsAs read file value = (rest : List ℕ) × IsRest file.told rest × (read (file.told.taken ++ rest) ≡ Some value)

-- the file at this place among those that were opened, where it was opened, reads as something
abbrev pub HoldsAt : {S : Type 0} → ℕ → (List ℕ → Option S) → WorldState → WorldState → Type 0
HoldsAt {S} place read before after = (file : Served) → slice_get (new_files before after) place ≡ Some file → (value : S) × ReadsAs read file value

-- the second file is pairs of the setup that the first one is
abbrev pub HoldsPairs : WorldState → WorldState → Type 0
HoldsPairs before after = (config : Served) (setup : Setup) → slice_get (new_files before after) 0 ≡ Some config → ReadsAs setup_in config setup
    → HoldsAt 1 (pairs_in setup) before after

-- what is served of a setup has what it needs
abbrev pub ServiceHasSetup : Service → WorldState → WorldState → Type 0
ServiceHasSetup Grants before after = HoldsAt 0 setup_in before after
ServiceHasSetup (Derivations pairs) before after = HoldsAt 0 setup_in before after × HoldsPairs before after
ServiceHasSetup Sets before after = HoldsAt 0 setup_in before after

-- The setup of a command is one: the first line of a replay, the first file of a command with a file for it.
abbrev pub HasItsSetup : Command → WorldState → WorldState → Type 0
HasItsSetup (Replay file) before after = HoldsAt 0 (λ text. setup_in (first_of (lines_of text))) before after
HasItsSetup (Field kind file) before after = Unit {0}
HasItsSetup (Sign config key created file _) before after = HoldsAt 0 setup_in before after
HasItsSetup (Verify config now file) before after = HoldsAt 0 setup_in before after
HasItsSetup (Serve service served) before after = ServiceHasSetup service before after
HasItsSetup (Rs config listen server quota cache) before after = HoldsAt 0 rs_setup_in before after
HasItsSetup (Client config address script) before after = HoldsAt 0 client_config_in before after
HasItsSetup (Hash texts) before after = Unit {0}
HasItsSetup (Load grants start workers) before after = Unit {0}

-- The setup of the command is one, fewer than 1,073,741,824 bytes were taken of each file, and no opening, read, accept or write failed.
pub record NothingWentWrong (command : Command) (before after : WorldState) (faults faults_now : ℕ) : Type 0 where
  pub setup : HasItsSetup command before after
  pub short : (place : ℕ) (file : Served) → slice_get (new_files before after) place ≡ Some file → length file.told.taken < 1073741824
  pub reads : HasFailed before after → ⊥
  pub writes : Rose faults faults_now → ⊥

-- The status is 0; or 7, where what was printed is a refusal; or memory ran out.
abbrev pub IsCompleted : ℕ → Type 0
IsCompleted status = (status ≡ 0) ⊎ (status ≡ 7) ⊎ (status ≡ 6)
