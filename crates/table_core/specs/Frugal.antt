-- The calls that take no memory.
use Rattle.gnap_model.specs.declared.calls.Call.{Call}
use Rattle.gnap_model.specs.declared.calls.Call.TheVariants.{Cancel, Revoke}

-- a cancellation and a revocation
abbrev pub IsFrugal : Call → Type 0
IsFrugal (Cancel key value) = Unit {0}
IsFrugal (Revoke key value) = Unit {0}
IsFrugal _ = ⊥
