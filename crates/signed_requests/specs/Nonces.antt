-- The nonces of numbered lines.
use Rattle.std.specs.Prelude.{ℕ, List, ◌∷◌, ◌++◌, decimal}

-- the nonce that the line of this number has where it names none: its moment in decimal, `-`, and the number in decimal
unfoldable pub line_nonce : ℕ → ℕ → List ℕ
line_nonce at number = decimal at ++ 45 ∷ decimal number
