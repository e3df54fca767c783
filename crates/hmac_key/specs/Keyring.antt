-- A keyring: secrets under distinct ids, in order.
use Rattle.std.specs.Prelude.{ℕ, if◌then◌else◌, List, [], ◌∷◌, ◌++◌, is_none}
use Rattle.structured_fields.specs.Named.{value_at}

-- the secret goes last, unless its id is there
abbrev pub with_secret : List (List ℕ × List ℕ) → List ℕ → List ℕ → List (List ℕ × List ℕ)
with_secret ring id secret = if is_none (value_at ring id) then ring ++ (id, secret) ∷ [] else ring
