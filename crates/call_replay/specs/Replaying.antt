-- A replay while it goes on.
use Rattle.std.specs.Prelude.{◌≡◌, ℕ, List, ◌++◌, Option, Some, None}
use Rattle.outside.specs.Outside.{Told}
use Rattle.histories.specs.History.{Legal}
use Rattle.histories.specs.Steps.{EachOf}
use Rattle.histories.specs.Turns.{entries_in}
use Rattle.histories.specs.Whole.{own_of}
use Rattle.gnap_model.specs.declared.objects.Setup.{Setup}
use Rattle.grant_machine.specs.Gnap.{GnapEntry, gnap}
use Rattle.command_inputs.specs.declared.printed_text.After.{After}
use Rattle.command_inputs.specs.declared.ended.Ended.{Ended}
use Rattle.command_inputs.specs.declared.ended.Ended.TheVariants.{Done, NoSetup, Failed, WriteFault, Memory, Refused, TooLong}
use Rattle.command_inputs.specs.LineRuns.{GoesBy, Prints, EndsAs, GoesOn, RunsLines}
use Rattle.call_replay.specs.Replays.{LineTurn, IsLineTurn, AreLineTurns}

-- The line of this number had its turn at the desk of a worker, which led from one history that it had seen to another.
pub record AnswersLine (setup : Setup) (worker number : ℕ) (line : List ℕ) (seen : List GnapEntry → Type 0) (h : List GnapEntry)
    (before after : Told) (result : After) : Type 0 where
  pub turn : LineTurn
  pub is_turn : IsLineTurn setup number turn
  pub message : turn.message ≡ line
  pub goes : GoesBy result turn.on
  pub history : List GnapEntry
  pub seen_now : seen history
  pub own : own_of worker history ≡ own_of worker h ++ turn.entries
  pub prints : Prints result turn.bytes before after

-- the turns that were had at the desk of a worker, from the empty history on
pub record Turns (setup : Setup) (worker : ℕ) (seen : List GnapEntry → Type 0) (turns : List LineTurn) : Type 0 where
  pub each : AreLineTurns setup turns
  pub history : List GnapEntry
  pub seen_now : seen history
  pub own : own_of worker history ≡ entries_in turns

-- All lines so far were ended by an LF, and had their turns.
abbrev pub Goes : Setup → ℕ → (List GnapEntry → Type 0) → List ℕ → List ℕ → ℕ → ℕ → Told → Told → Told → Told → Type 0
Goes setup worker seen held held_now taken taken_now source source_now out out_now =
    GoesOn (Turns setup worker seen) held held_now taken taken_now source source_now out out_now

-- The lines of a source had their turns, as far as the replay came.
abbrev pub Replays : Setup → ℕ → (List GnapEntry → Type 0) → List ℕ → ℕ → ℕ → Told → Told → Told → Told → Ended → Type 0
Replays setup worker seen held taken taken_now source source_now out out_now ended =
    RunsLines (Turns setup worker seen) EndsAs held taken taken_now source source_now out out_now ended

-- ---- the setup

-- how a replay ends that has no lines but the setup's
abbrev pub IsSetupAlone : Ended → Option Setup → Type 0
IsSetupAlone Done reading = (setup : Setup) × (reading ≡ Some setup)
IsSetupAlone (NoSetup why) reading = reading ≡ None
IsSetupAlone Memory reading = Unit {0}
IsSetupAlone Failed reading = ⊥
IsSetupAlone WriteFault reading = ⊥
IsSetupAlone Refused reading = ⊥
IsSetupAlone TooLong reading = ⊥

-- how a replay ends whose first line was read whole and is no setup
abbrev pub IsRefusal : Ended → Type 0
IsRefusal (NoSetup why) = Unit {0}
IsRefusal Memory = Unit {0}
IsRefusal Done = ⊥
IsRefusal Failed = ⊥
IsRefusal WriteFault = ⊥
IsRefusal Refused = ⊥
IsRefusal TooLong = ⊥

-- a legal history of one worker
abbrev pub IsLoneHistory : Setup → List GnapEntry → Type 0
IsLoneHistory setup h = Legal gnap setup h × EachOf 0 h
