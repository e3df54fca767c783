-- How a whole input is read.
use Rattle.std.specs.Prelude.{◌≡◌, ◌<◌, ◌≤◌, ℕ, List, length, Result, Ok, Err}
use Rattle.outside.specs.Outside.{Told, Takes, IsAtEnd, Rose}
use Rattle.command_inputs.specs.declared.whole_input.InputFault.{InputFault}
use Rattle.command_inputs.specs.declared.whole_input.InputFault.TheVariants.{TooLong, Failed, OutOfMemory}

-- What came of these bytes, which were taken of a source: they are all that it had, and no more than the limit; or they are more. Where a read
-- failed, they aren't.
abbrev pub EndsInput : ℕ → Result (List ℕ) InputFault → List ℕ → Told → Type 0
EndsInput limit (Ok text) bytes after = (text ≡ bytes) × (length bytes ≤ limit) × IsAtEnd after
EndsInput limit (Err TooLong) bytes after = limit < length bytes
EndsInput limit (Err Failed) bytes after = length bytes ≤ limit
EndsInput limit (Err OutOfMemory) bytes after = Unit {0}

-- A source was read to its end, or as far as that went: at most 1,073,741,824 bytes of it.
pub record ReadsInput (limit : ℕ) (before after : Told) (result : Result (List ℕ) InputFault) : Type 0 where
  pub bytes : List ℕ
  pub takes : Takes bytes before after
  pub most : length bytes ≤ 1073741824
  pub ends : EndsInput limit result bytes after

-- the count of faults rose where a read failed, and stays elsewhere
abbrev pub CountsInput : Result (List ℕ) InputFault → ℕ → ℕ → Type 0
CountsInput (Err Failed) faults faults_now = Rose faults faults_now
CountsInput _ faults faults_now = faults_now ≡ faults
