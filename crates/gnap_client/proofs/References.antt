-- The body of a continuation has no fractions.
use Rattle.std.proofs.Common.{◌≡◌, ℕ, List, false, refl}
use Rattle.serde_json.specs.Written.{has_float}
use Rattle.json_objects.specs.Objects.{object_of}
use Rattle.gnap_client.specs.Calls.{reference_fields}

pub reference_whole : (reference : List ℕ) → has_float (object_of (reference_fields reference)) ≡ false
reference_whole reference = refl
