-- How the lines of a source are read.
use Rattle.std.specs.Prelude.{◌≡◌, ◌≢◌, ℕ, ◌+◌, ◌<◌, Bool, true, false, List, [], ◌∷◌, ◌++◌, length, take, drop}
use Rattle.outside.specs.Outside.{Told, Takes, IsAtEnd, Rose}
use Rattle.command_inputs.specs.declared.line_reader.LineReader.{LineReader}
use Rattle.command_inputs.specs.declared.line_end.LineEnd.{LineEnd}
use Rattle.command_inputs.specs.declared.line_end.LineEnd.TheVariants.{Whole, Last, Long, Full, Failed, Memory}
use Rattle.command_inputs.specs.Lines.{IsLine}

-- what was read and not used
abbrev pub held_by : LineReader → List ℕ
held_by reader = drop reader.start reader.buffer.items

-- the bytes before and after the next line was taken out of them: an LF ends it, or nothing is left
abbrev pub IsNextPart : Bool → List ℕ → List ℕ → List ℕ → Type 0
IsNextPart true before part after = before ≡ part ++ 10 ∷ after
IsNextPart false before part after = (before ≡ part) × (after ≡ [])

-- a part of a line was moved, as far as it has room within the limit and one byte more
pub record MovesPart (room : ℕ) (whole : Bool) (before after : List ℕ) (line grown : List ℕ) : Type 0 where
  pub part : List ℕ
  pub is_line : IsLine part
  pub is_next : IsNextPart whole before part after
  pub grows : grown ≡ line ++ take room part

-- what is kept of a line: the bytes within the limit, and one more where there are more
pub record IsKept (limit : ℕ) (line full : List ℕ) : Type 0 where
  pub is_line : IsLine full
  pub kept : line ≡ take (limit + 1) full

-- these bytes were taken of a source, and counted
pub record Came (bytes : List ℕ) (taken taken_now : ℕ) (before after : Told) : Type 0 where
  pub takes : Takes bytes before after
  pub counted : taken_now ≡ taken + length bytes

-- what was gathered of a line so far
pub record Gathers (limit : ℕ) (line held held_now : List ℕ) (taken taken_now : ℕ) (before after : Told) : Type 0 where
  pub bytes : List ℕ
  pub came : Came bytes taken taken_now before after
  pub full : List ℕ
  pub is_kept : IsKept limit line full
  pub parts : held ++ bytes ≡ full ++ held_now

-- How the line ends: by an LF, or by the end of the input. Where it was read no further, all that was read is of it; of a line that is too long
-- more may have been read.
abbrev pub EndsBy : LineEnd → List ℕ → List ℕ → List ℕ → Told → Type 0
EndsBy Whole bytes full held after = bytes ≡ full ++ 10 ∷ held
EndsBy Last bytes full held after = (bytes ≡ full) × (held ≡ []) × IsAtEnd after
EndsBy Long bytes full held after = bytes ≡ full ++ held
EndsBy Full bytes full held after = (bytes ≡ full) × (held ≡ [])
EndsBy Failed bytes full held after = (bytes ≡ full) × (held ≡ [])
EndsBy Memory bytes full held after = Unit {0}

-- A line was read, out of what was held and what was taken. Of a line that passes the limit the rest isn't kept. Want of memory says nothing of it.
pub record ReadsLine (limit : ℕ) (line held held_now : List ℕ) (taken taken_now : ℕ) (before after : Told) (result : LineEnd) : Type 0 where
  pub bytes : List ℕ
  pub came : Came bytes taken taken_now before after
  pub full : List ℕ
  pub is_line : IsLine full
  pub kept : result ≢ Memory → line ≡ take (limit + 1) full
  pub ends : EndsBy result (held ++ bytes) full held_now after

-- the count of faults rose where a read failed, and stays elsewhere
abbrev pub CountsFault : LineEnd → ℕ → ℕ → Type 0
CountsFault Failed faults faults_now = Rose faults faults_now
CountsFault _ faults faults_now = faults_now ≡ faults

-- As many bytes were taken as may be where the line ended by that, and fewer where the input ended or a read failed.
abbrev pub CountsTaken : LineEnd → ℕ → Type 0
CountsTaken Full taken = taken ≡ 1073741824
CountsTaken Last taken = taken < 1073741824
CountsTaken Failed taken = taken < 1073741824
CountsTaken _ taken = Unit {0}
