-- What a replay does with the lines of its file, and what it prints.
use Rattle.std.specs.Prelude.{◌≡◌, ◌≤◌, ℕ, false, List, [], ◌∷◌, ◌++◌, length, Some, None}
use Rattle.outside.specs.Outside.{Told, Writes}
use Rattle.histories.specs.Turns.{Turn, Face, IsTurn, messages_in, entries_in}
use Rattle.histories.specs.Whole.{OneHistory}
use Rattle.gnap_model.specs.declared.objects.Setup.{Setup}
use Rattle.signed_calls.specs.declared.signed.Signed.{Signed}
use Rattle.gnap_model.specs.declared.calls.Reply.{Reply}
use Rattle.grant_machine.specs.Gnap.{GnapEntry, gnap}
use Rattle.grant_machine.specs.Laws.{WhatHolds}
use Rattle.call_replay.specs.declared.call_lines.LineStep.TheVariants.{Say, Ask}
use Rattle.command_inputs.specs.declared.ended.Ended.{Ended}
use Rattle.command_inputs.specs.declared.ended.Ended.TheVariants.{Done, NoSetup, Failed, WriteFault, Memory, Refused, TooLong}
use Rattle.call_replay.specs.CallLines.{line_step}
use Rattle.command_inputs.specs.Configs.{setup_limit, setup_in}
use Rattle.command_inputs.specs.Lines.{IsLine, lines_of, whole_lines}
use Rattle.command_inputs.specs.LineRuns.{EachFrom, EndsAs}
use Rattle.call_replay.specs.ReplyLines.{reply_line}

-- ---- lines

-- One line's turn: the entries that it made, and what was printed for it.
abbrev pub LineTurn : Type 0
LineTurn = Turn (List ℕ) GnapEntry

-- The line of this number is answered at once or asks a call, at the line's own moment and with its own words. Nothing is printed where memory runs out.
abbrev pub line_face : ℕ → Face (List ℕ) Setup Signed Reply
line_face number = record {
  says = λ setup last line moment text. line_step setup number line ≡ Say text;
  asks = λ setup line moment draw signed. line_step setup number line ≡ Ask moment draw signed;
  prints = λ setup last reply. reply_line setup reply;
  busy = [];
}

abbrev pub IsLineTurn : Setup → ℕ → LineTurn → Type 0
IsLineTurn setup number = IsTurn gnap (line_face number) setup false

-- the line of the setup is the first of a file, so the first call line has this number
abbrev pub first_call_line : ℕ
first_call_line = 2

-- Each line had its turn, by its number in the file. An empty line has a number and a turn too.
abbrev pub AreLineTurns : Setup → List LineTurn → Type 0
AreLineTurns setup turns = EachFrom first_call_line (IsLineTurn setup) turns

-- The account of a replay: these entries are those of the turns of its first lines, in order, and this was printed.
pub record IsReplay (setup : Setup) (whole lines : List (List ℕ)) (sent : List ℕ) (ended : Ended) (own : List GnapEntry) : Type 0 where
  pub turns : List LineTurn
  pub each : AreLineTurns setup turns
  pub own_is : own ≡ entries_in turns
  pub later : List (List ℕ)
  pub lines_are : lines ≡ messages_in turns ++ later
  pub ends : EndsAs ended turns whole later sent

-- ---- the file

-- the first line, and those after it
abbrev pub first_of : List (List ℕ) → List ℕ
first_of [] = []
first_of (line ∷ lines) = line

abbrev pub after_first : List (List ℕ) → List (List ℕ)
after_first [] = []
after_first (line ∷ lines) = lines

-- Lines were replayed by a setup: there is one legal history, of the one worker whose account is this replay's. What holds of all legal
-- histories holds of it.
pub record Replayed (setup : Setup) (whole lines : List (List ℕ)) (before after : Told) (ended : Ended) : Type 0 where
  pub sent : List ℕ
  pub told : Writes sent before after
  pub one : OneHistory gnap setup (IsReplay setup whole lines sent ended ∷ [])
  pub holds : WhatHolds setup one.history

-- Without a setup a replay isn't done: memory ran out, or the first line was read and is none, or the reading failed before a whole line was
-- read and before the line was too long.
abbrev pub EndsWithoutSetup : Ended → List ℕ → Type 0
EndsWithoutSetup (NoSetup why) taken = Unit {0}
EndsWithoutSetup Memory taken = Unit {0}
EndsWithoutSetup Failed taken = IsLine taken × (length taken ≤ setup_limit)
EndsWithoutSetup Done taken = ⊥
EndsWithoutSetup WriteFault taken = ⊥
EndsWithoutSetup Refused taken = ⊥
EndsWithoutSetup TooLong taken = ⊥

-- A file was replayed of which these bytes were taken, and which has this rest. By the setup that its first line is the lines after it were
-- replayed; or that line is none, and nothing was printed.
pub record ReplaysFile (taken rest : List ℕ) (before after : Told) (ended : Ended) : Type 0 where
  pub by_setup : (setup : Setup) → setup_in (first_of (lines_of (taken ++ rest))) ≡ Some setup
      → Replayed setup (after_first (whole_lines taken)) (after_first (lines_of (taken ++ rest))) before after ended
  pub without : setup_in (first_of (lines_of (taken ++ rest))) ≡ None → EndsWithoutSetup ended taken × (after ≡ before)
