-- Numbers on a command line.
use Rattle.std.specs.Prelude.{ℕ, ◌==◌, List, [], ◌∷◌, Bool, true, false, not, ◌&&◌, nat_le, Option, Some, None, if◌then◌else◌}
use Rattle.std.specs.List.{list_all}
use Rattle.std.specs.Char.{is_ascii_digit}
use Rattle.std.specs.Str.Parse.{digits_value}

-- digits of which the first of several is no zero
abbrev pub has_no_needless_zero : List ℕ → Bool
has_no_needless_zero [] = false
has_no_needless_zero (digit ∷ []) = true
has_no_needless_zero (digit ∷ next ∷ more) = not (digit == 48)

-- a number in decimal digits
abbrev pub is_number : List ℕ → Bool
is_number word = has_no_needless_zero word && list_all is_ascii_digit word

-- the number that a word is, where it is within this range
abbrev pub number_within : ℕ → ℕ → List ℕ → Option ℕ
number_within least most word =
    if is_number word && (nat_le least (digits_value 10 word) && nat_le (digits_value 10 word) most) then Some (digits_value 10 word) else None
