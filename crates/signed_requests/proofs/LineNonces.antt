-- The nonce of a line is one that can be signed.
use Rattle.std.proofs.Common.{◌≡◌, ◌∙◌, ℕ, ◌+◌, ◌<◌, ◌≤◌, ◌^◌, List, [], ◌∷◌, ◌++◌, length, length-append, true, refl, append_assoc, arith, rules}
use Rattle.std.specs.Prelude.{decimal}
use Rattle.std.specs.List.{list_all}
use Rattle.std.proofs.lemmas.Bool.{and_from, and_parts}
use Rattle.std.proofs.lemmas.Bool.Decides.{nat_tests}
use Rattle.std.proofs.lemmas.Fmt.{digits_decimal, length-decimal-le}
use Rattle.std.proofs.lemmas.List.Folds.{list_all-append}
use Rattle.std.proofs.lemmas.Str.Parse.{IsNumeralModel, numerals_by_fold}
use Rattle.structured_fields.specs.Letters.{is_digit, number, number_after}
use Rattle.message_signature.specs.Marks.{has_nonce_length, is_nonce_byte, is_nonce}
use Rattle.signed_requests.specs.Nonces.{line_nonce}

own : IsNumeralModel (λ ds. list_all is_digit ds ≡ true) number
own = numerals_by_fold _ (search rules) number_after (search rules)

digit_is : (c : ℕ) → is_digit c ≡ true → is_nonce_byte c ≡ true
digit_is c e = grind (arith, nat_tests)

digits_are : (s : List ℕ) → list_all is_digit s ≡ true → list_all is_nonce_byte s ≡ true
digits_are [] e = refl
digits_are (c ∷ s) e = let both = and_parts _ _ e in and_from _ _ (digit_is c both.0) (digits_are s both.1)

number_is : (n : ℕ) → n < 2 ^ 64 → list_all is_nonce_byte (decimal n) ≡ true
number_is n small = digits_are (decimal n) (digits_decimal own n small)

-- ---- its parts, joined

pub joined : (at n : ℕ) (front back first second third : List ℕ) → front ≡ decimal at → back ≡ decimal n
    → first ≡ front → second ≡ first ++ 45 ∷ [] → third ≡ second ++ back → third ≡ line_nonce at n
unfolding line_nonce
joined at n front back first second third at_is n_is first_is second_is third_is =
    third_is ∙ rw (second_is, first_is, at_is, n_is) (append_assoc (decimal at) (45 ∷ []) (decimal n))

-- ---- what it is

has_length : (s : List ℕ) → 0 < length s → length s ≤ 64 → has_nonce_length s ≡ true
has_length s some few = grind (arith, nat_tests)

pub line_is_nonce : (at n : ℕ) → at < 2 ^ 64 → n < 2 ^ 64 → is_nonce (line_nonce at n) ≡ true
unfolding line_nonce
line_is_nonce at n at_small n_small =
    let front : length (decimal at) ≤ 20 = length-decimal-le 20 at (omega arith) (omega (arith, at_small)) at_small in
    let back : length (decimal n) ≤ 20 = length-decimal-le 20 n (omega arith) (omega (arith, n_small)) n_small in
    let size : length (decimal at ++ 45 ∷ decimal n) ≡ length (decimal at) + length (45 ∷ decimal n) = length-append (decimal at) (45 ∷ decimal n) in
    let some : 0 < length (decimal at ++ 45 ∷ decimal n) = omega (arith, size) in
    let few : length (decimal at ++ 45 ∷ decimal n) ≤ 64 = omega (arith, size, front, back) in
    let bytes : list_all is_nonce_byte (decimal at ++ 45 ∷ decimal n) ≡ true =
    list_all-append is_nonce_byte (decimal at) (45 ∷ decimal n) ∙ and_from _ _ (number_is at at_small) (number_is n n_small) in
    and_from _ _ (has_length (decimal at ++ 45 ∷ decimal n) some few) bytes
