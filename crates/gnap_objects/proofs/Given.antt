-- What a reader gives.
use Rattle.std.proofs.Common.{ℕ, List, Result, Ok, Err}
use Rattle.std.specs.Prelude.{IfOk}
use Rattle.json_objects.specs.Reading.{Gives}
use Rattle.gnap_model.specs.declared.objects.Setup.{Setup}
use Rattle.gnap_objects.specs.declared.setups.SetupFault.{SetupFault}
use Rattle.gnap_objects.specs.declared.setups.SetupFault.TheVariants.{OutOfMemory}
use Rattle.gnap_objects.specs.Fits.{SetupFits}
use Rattle.gnap_objects.specs.Setups.{setup_of, IsSetup}

pub is_setup : (text : List ℕ) (r : Result Setup SetupFault) → Gives OutOfMemory (λ s. s) r (setup_of text) → IfOk r SetupFits → IfOk r IsSetup
is_setup text (Ok s) read fits = record { text = text; read_as = read; fits = fits }
is_setup text (Err e) read fits = tt
