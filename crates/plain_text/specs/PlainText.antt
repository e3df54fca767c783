-- Text that stands in a string of JSON as it is, and is ASCII.
use Rattle.std.specs.Prelude.{◌≡◌, ◌<◌, ℕ, List, [], ◌∷◌, Bool, ◌||◌, ◌==◌, nat_lt, IsAscii}
use Rattle.json.specs.Print.{escape, escape_byte}

-- a byte that stands for itself in a string
abbrev pub IsPlainByte : ℕ → Type 0
IsPlainByte x = (escape_byte x ≡ x ∷ []) × (x < 128)

-- a byte at which plain text stops
abbrev pub is_stop : ℕ → Bool
is_stop x = (x == 34) || (x == 92) || nat_lt x 32 || nat_lt 126 x

abbrev pub IsPlain : List ℕ → Type 0
IsPlain s = (escape s ≡ s) × IsAscii s
