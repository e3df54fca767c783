-- Words that are numbers.
use Rattle.std.proofs.Common.{◌≡◌, ℕ, ◌<◌, ◌≤◌, ◌^◌, List, [], ◌∷◌, refl, ap, sym, subst, arith, true}
use Rattle.std.specs.Prelude.{◌==◌, ◌&&◌, nat_le, false, Some, None, if◌then◌else◌}
use Rattle.std.specs.List.{list_all}
use Rattle.std.specs.Char.{is_ascii_digit, digit_value}
use Rattle.std.specs.Str.Parse.{IsNumeral, AllDigits, digits_value, without_leading_plus}
use Rattle.std.proofs.lemmas.Bool.{and_parts, leb-true, false_from_ne_true}
use Rattle.std.proofs.lemmas.Bool.Decides.{nat_tests}
use Rattle.command_words.specs.Numbers.{has_no_needless_zero, is_number, number_within}

digit_below : (c : ℕ) → is_ascii_digit c ≡ true → digit_value c < 10
digit_below c is = grind (arith, nat_tests)

all_digits : (word : List ℕ) → list_all is_ascii_digit word ≡ true → AllDigits 10 word
all_digits [] is = tt
all_digits (c ∷ word) is =
    let parts = and_parts (is_ascii_digit c) (list_all is_ascii_digit word) is in
    (digit_below c parts.0, all_digits word parts.1)

no_plus : (c : ℕ) (word : List ℕ) → is_ascii_digit c ≡ true → without_leading_plus (c ∷ word) ≡ c ∷ word
no_plus c word is =
    let other : (c == 43) ≡ false = grind (arith, nat_tests) in
    rw other refl

-- a number is a numeral without a sign
pub numeral : (word : List ℕ) → is_number word ≡ true → IsNumeral 10 (without_leading_plus word) × (without_leading_plus word ≡ word)
numeral [] is = absurd cc
numeral (c ∷ word) is =
    let digits = (and_parts (has_no_needless_zero (c ∷ word)) (list_all is_ascii_digit (c ∷ word)) is).1 in
    let first = (and_parts (is_ascii_digit c) (list_all is_ascii_digit word) digits).0 in
    let plain = no_plus c word first in
    (subst (IsNumeral 10) (sym plain) (omega arith, all_digits (c ∷ word) digits), plain)

-- a number that isn't read is past every range of 64 bits
pub past_range : (least most : ℕ) (word : List ℕ) → is_number word ≡ true → most < 2 ^ 64
    → ((IsNumeral 10 (without_leading_plus word) × (digits_value 10 (without_leading_plus word) < 2 ^ 64)) → ⊥) → None ≡ number_within least most word
past_range least most word is fits unread =
    let value = digits_value 10 word in
    let outside = false_from_ne_true (is_number word && (nat_le least value && nat_le value most)) (λ within.
    let range = (and_parts (is_number word) (nat_le least value && nat_le value most) within).1 in
    let below = (and_parts (nat_le least value) (nat_le value most) range).1 in
    let few : value ≤ most = leb-true value most below in
    let n = numeral word is in
    unread (n.0, subst (λ w. digits_value 10 w < 2 ^ 64) (sym n.1) (omega (arith, few, fits)))) in
    sym (ap (λ b. if b then Some value else None) outside)
