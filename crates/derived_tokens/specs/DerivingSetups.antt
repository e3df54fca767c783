-- What a server knows that derives tokens.
use Rattle.std.specs.Prelude.{List}
use Rattle.gnap_model.specs.declared.objects.Setup.{Setup}
use Rattle.derivation_requests.specs.Pairs.{Pair}

-- its setup, and which client keys of it belong to which resource servers
pub record DerivingSetup : Type 0 where
  pub setup : Setup
  pub pairs : List Pair
