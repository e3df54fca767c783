-- What asking a source for more does.
use Rattle.std.specs.Prelude.{◌≡◌, ℕ, ◌+◌, ◌<◌, [], length}
use Rattle.outside.specs.Outside.{Told, Takes, IsAtEnd, Rose}
use Rattle.command_inputs.specs.declared.line_reader.LineReader.{LineReader}
use Rattle.command_inputs.specs.declared.line_reader.Refill.{Refill}
use Rattle.command_inputs.specs.declared.line_reader.Refill.TheVariants.{More, End, Full, Failed, Memory}
use Rattle.command_inputs.specs.Reading.{held_by}

-- bytes came, and they are held
pub record Comes (before after : Told) (old new : LineReader) : Type 0 where
  pub takes : Takes (held_by new) before after
  pub some : 0 < length (held_by new)
  pub counted : new.taken ≡ old.taken + length (held_by new)

-- nothing came, and nothing is held
pub record ComesNone (old new : LineReader) : Type 0 where
  pub held : held_by new ≡ []
  pub taken : new.taken ≡ old.taken

abbrev pub Refills : Refill → Told → Told → ℕ → ℕ → LineReader → LineReader → Type 0
Refills More before after faults faults_now old new = Comes before after old new × (faults_now ≡ faults)
Refills End before after faults faults_now old new = Takes [] before after × IsAtEnd after × ComesNone old new × (faults_now ≡ faults)
    × (old.taken < 1073741824)
Refills Full before after faults faults_now old new = (after ≡ before) × ComesNone old new × (faults_now ≡ faults) × (old.taken ≡ 1073741824)
Refills Failed before after faults faults_now old new = (after ≡ before) × ComesNone old new × Rose faults faults_now × (old.taken < 1073741824)
Refills Memory before after faults faults_now old new = (after ≡ before) × ComesNone old new × (faults_now ≡ faults)
