-- A file that is a setup or a configuration.
use Rattle.std.specs.Prelude.{◌≡◌, ◌<◌, ◌≤◌, ℕ, List, ◌++◌, length, Option, Some, None, Result, Ok, Err}
use Rattle.command_inputs.specs.Configs.{setup_limit}
use Rattle.command_inputs.specs.declared.ended.Ended.{Ended}
use Rattle.command_inputs.specs.declared.ended.Ended.TheVariants.{Done, NoSetup, Failed, WriteFault, Memory, Refused, TooLong}

-- What was read of a file, of which these bytes were taken and which has this rest, is its whole text; or that has more bytes than a setup may have.
-- Where the reading failed, no more than a setup may have was read.
abbrev pub GivesText : Result (List ℕ) Ended → List ℕ → List ℕ → Type 0
GivesText (Ok text) taken rest = text ≡ taken ++ rest
GivesText (Err (NoSetup why)) taken rest = setup_limit < length (taken ++ rest)
GivesText (Err Memory) taken rest = Unit {0}
GivesText (Err Failed) taken rest = length taken ≤ setup_limit
GivesText (Err Done) taken rest = ⊥
GivesText (Err WriteFault) taken rest = ⊥
GivesText (Err Refused) taken rest = ⊥
GivesText (Err TooLong) taken rest = ⊥

-- What was read of it, seen by view, is what its text reads as; or its text reads as none.
abbrev pub GivesConfig : {X S : Type 0} → (X → S) → (List ℕ → Option S) → Result X Ended → List ℕ → List ℕ → Type 0
GivesConfig view read (Ok x) taken rest = read (taken ++ rest) ≡ Some (view x)
GivesConfig view read (Err (NoSetup why)) taken rest = read (taken ++ rest) ≡ None
GivesConfig view read (Err Memory) taken rest = Unit {0}
GivesConfig view read (Err Failed) taken rest = length taken ≤ setup_limit
GivesConfig view read (Err Done) taken rest = ⊥
GivesConfig view read (Err WriteFault) taken rest = ⊥
GivesConfig view read (Err Refused) taken rest = ⊥
GivesConfig view read (Err TooLong) taken rest = ⊥

-- how a command ends that has no more to do than to read a setup
abbrev pub ended_by : {X : Type 0} → Result X Ended → Ended
ended_by (Ok x) = Done
ended_by (Err ended) = ended
