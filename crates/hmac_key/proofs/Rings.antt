-- A secret under a new id goes last.
use Rattle.std.proofs.Common.{◌≡◌, ◌∙◌, refl, ℕ, List, None}
use Rattle.structured_fields.specs.Named.{value_at, with_value}
use Rattle.structured_fields.proofs.Entries.{goes_last}
use Rattle.hmac_key.specs.Keyring.{with_secret}

pub set_new : (ring : List (List ℕ × List ℕ)) (id secret : List ℕ) → value_at ring id ≡ None → with_value ring id secret ≡ with_secret ring id secret
set_new ring id secret none = goes_last ring id secret none ∙ rw none refl
