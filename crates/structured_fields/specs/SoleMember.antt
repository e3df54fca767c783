-- A dictionary that is one byte sequence.
use Rattle.std.specs.Prelude.{ℕ, List, [], ◌∷◌, ◌++◌}
use Rattle.structured_fields.specs.declared.bare.Bare.TheVariants.{Binary}
use Rattle.structured_fields.specs.declared.item.Member.{Member}
use Rattle.structured_fields.specs.declared.item.Member.TheVariants.{Item as Single}

-- `key=:base64:`
abbrev pub sole_text : List ℕ → List ℕ → List ℕ
sole_text key coded = key ++ (61 ∷ 58 ∷ (coded ++ 58 ∷ []))

-- the member under this key alone, without parameters
abbrev pub sole_sequence : List ℕ → List ℕ → List (List ℕ × Member)
sole_sequence key bytes = (key, Single (record { bare = Binary bytes; params = [] })) ∷ []
