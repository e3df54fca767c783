-- The account of a script.
use Rattle.std.specs.Prelude.{◌≡◌, ◌⊎◌, ◌&&◌, ℕ, Bool, true, false, List, [], ◌∷◌, ◌++◌, length, Option, None, if◌then◌else◌}
use Rattle.std.specs.List.{list_all}
use Rattle.outside.specs.Outside.{Told, Writes}
use Rattle.outside.specs.Links.{Exchange}
use Rattle.histories.specs.Turns.{AllOn, messages_in, entries_in, bytes_in}
use Rattle.gnap_client.specs.declared.client.Client.{Client}
use Rattle.gnap_client.specs.Configs.{Parts, parts_of}
use Rattle.gnap_client.specs.Received.{nothing_received}
use Rattle.client_scripts.specs.declared.turns.LineSaid.{LineSaid}
use Rattle.client_scripts.specs.Turns.{ScriptEntry, ScriptTurn, IsScriptTurn, HasScriptTurn, Chained, exchanges_in, bytes_said, fine_said, was_said}
use Rattle.command_inputs.specs.declared.printed_text.After.{After}
use Rattle.command_inputs.specs.declared.ended.Ended.{Ended}
use Rattle.command_inputs.specs.declared.ended.Ended.TheVariants.{Done, NoSetup, Failed, WriteFault, Memory, Refused, TooLong}
use Rattle.command_inputs.specs.LineRuns.{GoesBy, Prints, EachFrom, EndsAs, GoesOn}
use Rattle.command_inputs.specs.Lines.{lines_of, whole_lines}

-- ---- one line

-- The line of this number had its turn over a link, and what was said was printed. A line that isn't ok ends that all were.
pub record SaysLine (number : ℕ) (line : List ℕ) (old new : Client) (asked asked_now : List Exchange) (before after : Told) (result : After)
    (fine fine_now : Bool) : Type 0 where
  pub said : Option LineSaid
  pub turn : HasScriptTurn number line old new asked asked_now said
  pub goes : GoesBy result (was_said said)
  pub prints : Prints result (bytes_said said) before after
  pub fine_is : fine_now ≡ (fine && fine_said said)

-- ---- all lines

abbrev pub is_fine_entry : ScriptEntry → Bool
is_fine_entry entry = entry.fine

-- each line was ok
abbrev pub all_fine : List ScriptEntry → Bool
all_fine entries = list_all is_fine_entry entries

-- The turns that were had, on one client and over one link. The first line is number 1.
pub record ScriptHad (first : Client) (asked : List Exchange) (last : Client) (asked_now : List Exchange) (turns : List ScriptTurn) : Type 0 where
  pub each : EachFrom 1 IsScriptTurn turns
  pub chained : Chained first (entries_in turns) last
  pub adds : asked_now ≡ asked ++ exchanges_in (entries_in turns)

-- the last of these texts isn't empty
abbrev pub EndsInText : List (List ℕ) → Type 0
EndsInText texts = (front : List (List ℕ)) × (byte : ℕ) × (text : List ℕ) × (texts ≡ front ++ (byte ∷ text) ∷ [])

-- All lines had their turns. What stands behind the last LF is a line where it isn't empty.
abbrev pub AllHad : List ScriptTurn → List (List ℕ) → Type 0
AllHad turns later = (later ≡ [] ∷ []) ⊎ ((later ≡ []) × EndsInText (messages_in turns))

-- How a script ended, as `EndsAs` says it: `Done` where each line was ok, and `Refused` where one wasn't.
abbrev pub EndsScript : Ended → List ScriptTurn → List (List ℕ) → List (List ℕ) → List ℕ → Type 0
EndsScript Done turns whole later sent = AllOn turns × AllHad turns later × (sent ≡ bytes_in turns) × (all_fine (entries_in turns) ≡ true)
EndsScript Refused turns whole later sent = AllOn turns × AllHad turns later × (sent ≡ bytes_in turns) × (all_fine (entries_in turns) ≡ false)
EndsScript (NoSetup why) turns whole later sent = ⊥
EndsScript WriteFault turns whole later sent = EndsAs WriteFault turns whole later sent
EndsScript Memory turns whole later sent = EndsAs Memory turns whole later sent
EndsScript Failed turns whole later sent = EndsAs Failed turns whole later sent
EndsScript TooLong turns whole later sent = EndsAs TooLong turns whole later sent

-- how a script ends whose lines all had their turns
abbrev pub ended_script : Bool → Ended
ended_script fine = if fine then Done else Refused

-- all lines so far were ended by an LF, and had their turns; `fine` tells whether each was ok, and `number` how many they are
pub record ScriptGoes (first : Client) (asked : List Exchange) (last : Client) (asked_now : List Exchange) (fine : Bool) (number : ℕ)
    (held held_now : List ℕ) (taken taken_now : ℕ) (source source_now out out_now : Told) : Type 0 where
  pub goes : GoesOn (ScriptHad first asked last asked_now) held held_now taken taken_now source source_now out out_now
  pub fine_is : fine ≡ all_fine (entries_in goes.turns)
  pub number_is : number ≡ length goes.turns

-- The account of a script of which these bytes were taken, and which has this rest: its first lines had their turns, in order, on one client; these
-- exchanges were made over the link, and no others; and this was printed.
pub record RunsScript (first : Client) (taken rest : List ℕ) (exchanges : List Exchange) (before after : Told) (ended : Ended) : Type 0 where
  pub turns : List ScriptTurn
  pub each : EachFrom 1 IsScriptTurn turns
  pub last : Client
  pub chained : Chained first (entries_in turns) last
  pub exchanges_are : exchanges ≡ exchanges_in (entries_in turns)
  pub sent : List ℕ
  pub told : Writes sent before after
  pub later : List (List ℕ)
  pub lines_are : lines_of (taken ++ rest) ≡ messages_in turns ++ later
  pub ends : EndsScript ended turns (whole_lines taken) later sent

-- a client of this configuration that has asked for nothing
pub record IsNewClient (parts : Parts) (client : Client) : Type 0 where
  pub config : parts_of client.config ≡ parts
  pub received : client.received ≡ nothing_received
  pub asked : client.asked ≡ None

-- the same on a new client of this configuration
abbrev pub RunsClient : Parts → List ℕ → List ℕ → List Exchange → Told → Told → Ended → Type 0
RunsClient parts taken rest exchanges before after ended =
    (first : Client) × IsNewClient parts first × RunsScript first taken rest exchanges before after ended
