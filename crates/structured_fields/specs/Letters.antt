-- The classes of bytes of RFC 9651, and the number that digits write.
use Rattle.std.specs.Prelude.{ℕ, ◌+◌, ◌-◌, ◌*◌, ◌^◌, ◌==◌, nat_le, Bool, false, if◌then◌else◌, ◌&&◌, ◌||◌, not, List, [], ◌∷◌, ℤ, pos, neg_ℤ, codes}
use Rattle.std.specs.List.{list_all, list_any}

-- so many digits an Integer has at most (section 3.3.1), and a Decimal before and behind its point (section 3.3.2)
abbrev pub integer_digits : ℕ
integer_digits = 15

abbrev pub whole_digits : ℕ
whole_digits = 12

abbrev pub fraction_digits : ℕ
fraction_digits = 3

-- Integers, Dates and the thousandths of Decimals stay below this, either way
abbrev pub number_limit : ℕ
number_limit = 10 ^ 15

-- SP
abbrev pub is_space : ℕ → Bool
is_space c = c == 32

-- OWS is any number of SP and HTAB
abbrev pub is_ows : ℕ → Bool
is_ows c = (c == 32) || (c == 9)

abbrev pub is_digit : ℕ → Bool
is_digit c = nat_le 48 c && nat_le c 57

abbrev pub is_lower : ℕ → Bool
is_lower c = nat_le 97 c && nat_le c 122

abbrev pub is_letter : ℕ → Bool
is_letter c = is_lower c || (nat_le 65 c && nat_le c 90)

-- a lower-case letter or `*`
abbrev pub is_key_start : ℕ → Bool
is_key_start c = is_lower c || (c == 42)

-- `_`, `-`, `.` and digits too
abbrev pub is_key_byte : ℕ → Bool
is_key_byte c = is_key_start c || is_digit c || (c == 95) || (c == 45) || (c == 46)

-- a key (section 3.1.2)
abbrev pub is_key : List ℕ → Bool
is_key [] = false
is_key (c ∷ cs) = is_key_start c && list_all is_key_byte cs

-- a letter or `*`
abbrev pub is_token_start : ℕ → Bool
is_token_start c = is_letter c || (c == 42)

abbrev pub is_token_byte : ℕ → Bool
is_token_byte c = is_letter c || is_digit c || list_any (λ k. c == k) (codes "!#$%&'*+-.^_`|~:/")

-- a Token (section 3.3.4)
abbrev pub is_token : List ℕ → Bool
is_token [] = false
is_token (c ∷ cs) = is_token_start c && list_all is_token_byte cs

-- what a String may hold (section 3.3.3)
abbrev pub is_string_byte : ℕ → Bool
is_string_byte c = nat_le 32 c && nat_le c 126

-- `"` and `\`
abbrev pub is_quoted : ℕ → Bool
is_quoted c = (c == 34) || (c == 92)

-- what needs no backslash before it
abbrev pub is_unquoted : ℕ → Bool
is_unquoted c = not (is_quoted c)

-- what stands for itself between the quotes of a String
abbrev pub is_plain : ℕ → Bool
is_plain c = is_string_byte c && is_unquoted c

-- what stands for itself between the quotes of a Display String (section 3.3.8)
abbrev pub is_shown : ℕ → Bool
is_shown c = is_string_byte c && not ((c == 34) || (c == 37))

-- the number that the digits write after those of n
abbrev pub number_after : ℕ → List ℕ → ℕ
number_after n [] = n
number_after n (c ∷ cs) = number_after (10 * n + (c - 48)) cs

abbrev pub number : List ℕ → ℕ
number = number_after 0

-- a minus before zero is zero
abbrev pub signed : Bool → ℕ → ℤ
signed negative n = if negative then neg_ℤ (pos n) else pos n

-- the minus of a negative number
abbrev pub sign : Bool → List ℕ
sign negative = if negative then 45 ∷ [] else []
