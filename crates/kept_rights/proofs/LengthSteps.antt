-- A length that is read byte by byte.
use Rattle.std.proofs.Common.{◌≡◌, ℕ, ◌+◌, ◌-◌, ◌<◌, ◌≤◌, List, [], ◌∷◌, length, take, drop, get_or, sym, ap, ◌∙◌, arith}
use Rattle.std.proofs.lemmas.Bool.Decides.{nat_tests}
use Rattle.std.proofs.lemmas.List.{at_drop_more, at_drop_all, take_rest, drop_all}
use Rattle.kept_rights.specs.Reading.{length_from, length_at}

passes : (n byte : ℕ) (rest : List ℕ) → length rest < n + byte → length_from n (byte ∷ rest) ≡ (0, [])
unfolding length_from
passes n byte rest lt = grind (arith, nat_tests)

pub last_read : (n byte : ℕ) (rest : List ℕ) → byte < 255 → n + byte ≤ length rest → length_from n (byte ∷ rest) ≡ (n + byte, rest)
unfolding length_from
last_read n byte rest lt le = grind (arith, nat_tests)

pub full_read : (n byte : ℕ) (rest : List ℕ) → 255 ≤ byte → n + byte ≤ length rest → length_from n (byte ∷ rest) ≡ length_from (n + byte) rest
unfolding length_from
full_read n byte rest ge le = grind (arith, nat_tests)

-- nothing is left
nothing_left : (bytes : List ℕ) → take (length bytes - length bytes) (drop (length bytes) bytes) ≡ []
nothing_left bytes = take_rest bytes (length bytes) ∙ drop_all (length bytes) bytes (omega arith)

pub passed : (n i : ℕ) (bytes : List ℕ) → i < length bytes → length (drop (i + 1) bytes) < n + get_or bytes i 0 → length_from n (drop i bytes) ≡ length_at bytes
    → (0, take (length bytes - length bytes) (drop (length bytes) bytes)) ≡ length_at bytes
passed n i bytes lt past so_far = ap (λ (left : List ℕ). (0, left)) (nothing_left bytes) ∙ sym (passes n (get_or bytes i 0) (drop (i + 1) bytes) past)
    ∙ sym (at_drop_more (length_from n) bytes i 0 lt) ∙ so_far

pub ended : (n i : ℕ) (bytes : List ℕ) → length bytes ≤ i → length_from n (drop i bytes) ≡ length_at bytes
    → (0, take (length bytes - length bytes) (drop (length bytes) bytes)) ≡ length_at bytes
unfolding length_from
ended n i bytes le so_far = ap (λ (left : List ℕ). (0, left)) (nothing_left bytes) ∙ sym (at_drop_all (length_from n) bytes i le) ∙ so_far

pub found : (n i : ℕ) (bytes : List ℕ) → i < length bytes → get_or bytes i 0 < 255 → n + get_or bytes i 0 ≤ length (drop (i + 1) bytes)
    → length_from n (drop i bytes) ≡ length_at bytes
    → (n + get_or bytes i 0, take (length bytes - (i + 1)) (drop (i + 1) bytes)) ≡ length_at bytes
found n i bytes lt small room so_far =
    ap (λ (left : List ℕ). (n + get_or bytes i 0, left)) (take_rest bytes (i + 1)) ∙ sym (last_read n (get_or bytes i 0) (drop (i + 1) bytes) small room)
    ∙ sym (at_drop_more (length_from n) bytes i 0 lt) ∙ so_far

pub goes_on : (n i : ℕ) (bytes : List ℕ) → i < length bytes → 255 ≤ get_or bytes i 0 → n + get_or bytes i 0 ≤ length (drop (i + 1) bytes)
    → length_from n (drop i bytes) ≡ length_at bytes
    → length_from (n + get_or bytes i 0) (drop (i + 1) bytes) ≡ length_at bytes
goes_on n i bytes lt big room so_far = sym (full_read n (get_or bytes i 0) (drop (i + 1) bytes) big room) ∙ sym (at_drop_more (length_from n) bytes i 0 lt)
    ∙ so_far
