-- The number that a user code is (RFC 9635, section 3.3.3).
use Rattle.std.specs.Prelude.{ℕ, zero, suc, ◌+◌, ◌-◌, ◌*◌, nat_lt, ◌&&◌, List, [], ◌∷◌, get_or, slice_index}
use Rattle.std.specs.declared.option.Option.{Option}
use Rattle.gnap_model.specs.Common.{Text, same_text, some_if}
use Rattle.gnap_model.specs.Values.{code_count, code_text}

-- the letters from A to Z as digits in base 20, and 0 for those that no code has
abbrev pub letter_digits : List ℕ
letter_digits = 0 ∷ 0 ∷ 1 ∷ 2 ∷ 0 ∷ 3 ∷ 4 ∷ 5 ∷ 0 ∷ 6 ∷ 7 ∷ 8 ∷ 9 ∷ 10 ∷ 0 ∷ 11 ∷ 12 ∷ 13 ∷ 14 ∷ 15 ∷ 0 ∷ 16 ∷ 17 ∷ 18 ∷ 0 ∷ 19 ∷ []

-- the digit that a letter is
abbrev pub digit_of : ℕ → ℕ
digit_of letter = get_or letter_digits (letter - 65) 0

-- the number that the first so many letters are in base 20
abbrev pub number_in_first : ℕ → Text → ℕ
number_in_first zero code = 0
number_in_first (suc places) code = number_in_first places code * 20 + digit_of (slice_index code places)

abbrev pub number_in : Text → ℕ
number_in code = number_in_first 8 code

-- the number whose user code this is
abbrev pub number_of : Text → Option ℕ
number_of code = some_if (nat_lt (number_in code) code_count && same_text (code_text (number_in code)) code) (number_in code)
