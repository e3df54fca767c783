-- The setup, or the configuration, that a text is.
use Rattle.std.specs.Prelude.{◌≡◌, ℕ, List, length, nat_lt, Option, Some, None, Result, Ok, Err, if◌then◌else◌}
use Rattle.gnap_model.specs.declared.objects.Setup.{Setup}
use Rattle.gnap_objects.specs.Setups.{setup_of}
use Rattle.gnap_objects.specs.declared.setups.SetupFault.{SetupFault}
use Rattle.command_inputs.specs.declared.ended.Ended.{Ended}
use Rattle.command_inputs.specs.declared.ended.Ended.TheVariants.{Done, NoSetup, Failed, WriteFault, Memory, Refused, TooLong}

-- the most bytes of a setup
abbrev pub setup_limit : ℕ
setup_limit = 1048576

abbrev pub config_read : {S : Type 0} → Result S SetupFault → Option S
config_read (Ok config) = Some config
config_read (Err fault) = None

-- the configuration that a text is: what it reads as, where it has no more bytes than a setup may have
abbrev pub config_in : {S : Type 0} → (List ℕ → Result S SetupFault) → List ℕ → Option S
config_in read text = if nat_lt setup_limit (length text) then None else config_read (read text)

-- the setup of an authorization server that a text is
abbrev pub setup_in : List ℕ → Option Setup
setup_in text = config_in setup_of text

-- What was read, seen by view, is this; or there is none, and so a command ends; or memory ran out.
abbrev pub GivesRead : {X S : Type 0} → (X → S) → Result X Ended → Option S → Type 0
GivesRead view (Ok x) reading = reading ≡ Some (view x)
GivesRead view (Err (NoSetup why)) reading = reading ≡ None
GivesRead view (Err Memory) reading = Unit {0}
GivesRead view (Err Done) reading = ⊥
GivesRead view (Err Failed) reading = ⊥
GivesRead view (Err WriteFault) reading = ⊥
GivesRead view (Err Refused) reading = ⊥
GivesRead view (Err TooLong) reading = ⊥
