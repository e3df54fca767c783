-- How commands end, and what that says of what they read and printed to.
use Rattle.std.specs.Prelude.{◌≡◌, ◌<◌, ℕ, length}
use Rattle.outside.specs.Outside.{Told, IsAtEnd, Rose}
use Rattle.command_inputs.specs.declared.ended.Ended.{Ended}
use Rattle.command_inputs.specs.declared.ended.Ended.TheVariants.{Done, NoSetup, Failed, WriteFault, Memory, Refused, TooLong}

-- the status of a command that ended so
abbrev pub status_of : Ended → ℕ
status_of Done = 0
status_of (NoSetup why) = 3
status_of Failed = 4
status_of WriteFault = 5
status_of Memory = 6
status_of Refused = 7
status_of TooLong = 8

-- a count of faults rose where the command ended by a fault of that kind, and stays elsewhere
abbrev pub CountsReads : Ended → ℕ → ℕ → Type 0
CountsReads Failed faults faults_now = Rose faults faults_now
CountsReads _ faults faults_now = faults_now ≡ faults

abbrev pub CountsWrites : Ended → ℕ → ℕ → Type 0
CountsWrites WriteFault faults faults_now = Rose faults faults_now
CountsWrites _ faults faults_now = faults_now ≡ faults

-- So many bytes were taken of the input: all that it had, and fewer than may be, where the command was carried out; fewer than may be where a read
-- failed; as many as may be where it ended by that.
abbrev pub EndsAt : Ended → ℕ → Told → Type 0
EndsAt Done taken told = (taken < 1073741824) × IsAtEnd told
EndsAt Refused taken told = (taken < 1073741824) × IsAtEnd told
EndsAt Failed taken told = taken < 1073741824
EndsAt TooLong taken told = taken ≡ 1073741824
EndsAt (NoSetup why) taken told = Unit {0}
EndsAt WriteFault taken told = Unit {0}
EndsAt Memory taken told = Unit {0}

-- the same of what the input tells
abbrev pub Took : Ended → Told → Type 0
Took ended told = EndsAt ended (length told.taken) told
