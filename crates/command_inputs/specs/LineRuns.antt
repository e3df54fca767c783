-- The lines of a source, each of which has its turn, as far as that came.
use Rattle.std.specs.Prelude.{◌≡◌, ◌⊎◌, ℕ, ◌+◌, ◌≤◌, Bool, true, false, List, [], ◌∷◌, ◌++◌, length, Option, Some, None}
use Rattle.bytes_and_lists.specs.Prefixes.{IsPrefix}
use Rattle.outside.specs.Outside.{Told, IsRest, Writes, Rose}
use Rattle.histories.specs.Turns.{Turn, AllOn, OneMore, Cut, messages_in, bytes_in}
use Rattle.command_inputs.specs.declared.printed_text.After.{After}
use Rattle.command_inputs.specs.declared.printed_text.After.TheVariants as after
use Rattle.command_inputs.specs.declared.line_end.LineEnd.{LineEnd}
use Rattle.command_inputs.specs.declared.line_end.LineEnd.TheVariants as line_ends
use Rattle.command_inputs.specs.declared.ended.Ended.{Ended}
use Rattle.command_inputs.specs.declared.ended.Ended.TheVariants.{Done, NoSetup, Failed, WriteFault, Memory, Refused, TooLong}
use Rattle.command_inputs.specs.Lines.{IsLine, lines_of, whole_lines}
use Rattle.command_inputs.specs.Reading.{Came}

-- ---- one line

-- whether more lines may follow
abbrev pub GoesBy : After → Bool → Type 0
GoesBy after.On on = on ≡ true
GoesBy after.Starved on = on ≡ false
GoesBy after.Cut on = Unit {0}

-- what was printed for a line
abbrev pub Prints : After → List ℕ → Told → Told → Type 0
Prints after.On bytes before now = Writes bytes before now
Prints after.Starved bytes before now = (now ≡ before) × (bytes ≡ [])
Prints after.Cut bytes before now = (part : List ℕ) × IsPrefix part bytes × Writes part before now

-- the count of the sink's faults rose where a write failed, and stays elsewhere
abbrev pub CountsPrint : After → ℕ → ℕ → Type 0
CountsPrint after.Cut faults faults_now = Rose faults faults_now
CountsPrint _ faults faults_now = faults_now ≡ faults

-- how a command ends whose reading stopped in a line; none where the line came to its end
abbrev pub stopped : LineEnd → Option Ended
stopped line_ends.Whole = None
stopped line_ends.Last = None
stopped line_ends.Long = None
stopped line_ends.Full = Some TooLong
stopped line_ends.Failed = Some Failed
stopped line_ends.Memory = Some Memory

-- the input ended with the line
abbrev pub is_last : LineEnd → Bool
is_last line_ends.Last = true
is_last _ = false

-- ---- all lines

-- the lines, each with the LF that ends it
abbrev pub ended_lines : List (List ℕ) → List ℕ
ended_lines [] = []
ended_lines (line ∷ lines) = line ++ 10 ∷ ended_lines lines

abbrev pub AreLines : List (List ℕ) → Type 0
AreLines [] = Unit {0}
AreLines (line ∷ lines) = IsLine line × AreLines lines

module _ {E : Type 0} where
  -- each of the turns is so, by its number; the first has this one
  abbrev pub EachFrom : ℕ → (ℕ → Turn (List ℕ) E → Type 0) → List (Turn (List ℕ) E) → Type 0
  EachFrom number P [] = Unit {0}
  EachFrom number P (turn ∷ turns) = P number turn × EachFrom (number + 1) P turns

  -- How lines ended, by their turns, the lines that were read whole, the lines that had no turn, and what was printed. Memory ran out at the last
  -- of the turns, or at none. Where the reading failed, or came to the limit, all lines that were read whole had had their turns.
  abbrev pub EndsAs : Ended → List (Turn (List ℕ) E) → List (List ℕ) → List (List ℕ) → List ℕ → Type 0
  EndsAs Done turns whole later sent = AllOn turns × (later ≡ []) × (sent ≡ bytes_in turns)
  EndsAs (NoSetup why) turns whole later sent = ⊥
  EndsAs Refused turns whole later sent = ⊥
  EndsAs WriteFault turns whole later sent =
      (front : List (Turn (List ℕ) E)) × (last : Turn (List ℕ) E) × OneMore AllOn turns front last × Cut sent (bytes_in front) last.bytes
  EndsAs Memory turns whole later sent = (sent ≡ bytes_in turns)
      × (AllOn turns ⊎ ((front : List (Turn (List ℕ) E)) × (last : Turn (List ℕ) E) × OneMore AllOn turns front last))
  EndsAs Failed turns whole later sent = AllOn turns × (sent ≡ bytes_in turns) × (whole ≡ messages_in turns)
  EndsAs TooLong turns whole later sent = AllOn turns × (sent ≡ bytes_in turns) × (whole ≡ messages_in turns)

-- All lines so far were ended by an LF, and had their turns. `Had` says what is known of the turns.
pub record GoesOn {E : Type 0} (Had : List (Turn (List ℕ) E) → Type 0) (held held_now : List ℕ) (taken taken_now : ℕ)
    (source source_now out out_now : Told) : Type 0 where
  pub turns : List (Turn (List ℕ) E)
  pub had : Had turns
  pub on : AllOn turns
  pub bytes : List ℕ
  pub came : Came bytes taken taken_now source source_now
  pub are_lines : AreLines (messages_in turns)
  pub parts : held ++ bytes ≡ ended_lines (messages_in turns) ++ held_now
  pub few : length turns + length held_now ≤ taken_now
  pub prints : Writes (bytes_in turns) out out_now

-- The lines of a source had their turns, as far as that came. `Ends` says how that ended, as `EndsAs` does.
pub record RunsLines {E : Type 0} (Had : List (Turn (List ℕ) E) → Type 0)
    (Ends : Ended → List (Turn (List ℕ) E) → List (List ℕ) → List (List ℕ) → List ℕ → Type 0) (held : List ℕ) (taken taken_now : ℕ)
    (source source_now out out_now : Told) (ended : Ended) : Type 0 where
  pub turns : List (Turn (List ℕ) E)
  pub had : Had turns
  pub few : length turns ≤ taken_now + 1
  pub bytes : List ℕ
  pub came : Came bytes taken taken_now source source_now
  pub sent : List ℕ
  pub prints : Writes sent out out_now
  -- whatever may be left, the lines of the whole are those of the turns, and later ones
  pub lines : (rest : List ℕ) → IsRest source_now rest
      → (later : List (List ℕ)) × (lines_of (held ++ bytes ++ rest) ≡ messages_in turns ++ later) × Ends ended turns (whole_lines (held ++ bytes)) later sent
