-- The front of a list that passes a test, and what a string's reader held before.
use Rattle.std.proofs.Common.{◌≡◌, ℕ, suc, ◌+◌, ◌^◌, ◌≤◌, ◌<◌, ◌-◌, ◌==◌, Bool, true, false, not, cond, List, [], ◌∷◌, ◌++◌, length, take, drop, get_or, Option, Some, None, refl, sym, ap, ◌∙◌, arith, append_assoc, lit<}
use Rattle.std.specs.List.{prefix_len, list_all, flat_map}
use Rattle.std.specs.Option.{option_map}
use Rattle.std.proofs.Math.Nat.{pow-le-pow_right}
use Rattle.structured_fields.specs.Letters.{is_digit, is_plain, is_quoted, is_unquoted, is_string_byte}
use Rattle.structured_fields.specs.Grammar.{in_string}
use Rattle.structured_fields.specs.Reading.{front, behind, with_byte, string_rest}
use Rattle.std.proofs.lemmas.List.{drop_more, drop_all, take_rest, append-nil}
use Rattle.std.proofs.lemmas.List.Sums.{prefix_len-drop_all, prefix_len-drop_no}
use Rattle.std.proofs.lemmas.Bool.Decides.{nat_tests}

pub front_all : (p : ℕ → Bool) (xs : List ℕ) → list_all p (take (prefix_len p xs) xs) ≡ true
front_all p [] = refl
front_all p (x ∷ xs) = by (p x) refl (front_all p xs)
  where
    by : (b : Bool) → p x ≡ b → list_all p (take (prefix_len p xs) xs) ≡ true → list_all p (take (cond b (1 + prefix_len p xs) 0) (x ∷ xs)) ≡ true
    by true e r = let k : 1 + prefix_len p xs ≡ suc (prefix_len p xs) = omega arith in rw (k, e) r
    by false e r = refl

pub digits_all : (xs : List ℕ) → list_all is_digit (take (prefix_len is_digit xs) xs) ≡ true
digits_all xs = front_all is_digit xs

pub ten_to : (i : ℕ) → i ≤ 14 → 10 ^ i ≤ 10 ^ 14
ten_to i h = pow-le-pow_right (lit< tt) h

abbrev pub with_front : List ℕ → Option (List ℕ × List ℕ) → Option (List ℕ × List ℕ)
with_front held read = option_map (λ x. (held ++ x.0, x.1)) read

pub with_front_push : (held : List ℕ) (c : ℕ) (read : Option (List ℕ × List ℕ)) → with_front held (with_byte c read) ≡ with_front (held ++ c ∷ []) read
with_front_push held c None = refl
with_front_push held c (Some x) = ap (λ (s : List ℕ). Some (s, x.1)) (sym (append_assoc held (c ∷ []) x.0))

pub with_front_none : (read : Option (List ℕ × List ℕ)) → with_front [] read ≡ read
with_front_none None = refl
with_front_none (Some x) = refl

pub below_ten_to : (i k n : ℕ) → n < 10 ^ i → i ≤ k → n < 10 ^ k
below_ten_to i k n h l = let p : 10 ^ i ≤ 10 ^ k = pow-le-pow_right (lit< tt) l in omega arith

module _ (bytes : List ℕ) (i : ℕ) (within : i < length bytes) where
  pub opened_true : string_rest true (drop i bytes)
      ≡ cond (is_quoted (get_or bytes i 0)) (with_byte (get_or bytes i 0) (string_rest false (drop (i + 1) bytes))) None
  unfolding string_rest
  opened_true = rw (drop_more bytes i 0 within) refl

  pub opened_false : string_rest false (drop i bytes) ≡ cond (get_or bytes i 0 == 34) (Some ([], drop (i + 1) bytes))
      (cond (get_or bytes i 0 == 92) (string_rest true (drop (i + 1) bytes))
      (cond (is_string_byte (get_or bytes i 0)) (with_byte (get_or bytes i 0) (string_rest false (drop (i + 1) bytes))) None))
  unfolding string_rest
  opened_false = rw (drop_more bytes i 0 within) refl

pub ended : (escaped : Bool) (bytes : List ℕ) (i : ℕ) → length bytes ≤ i → string_rest escaped (drop i bytes) ≡ None
unfolding string_rest
ended true bytes i h = rw (drop_all i bytes h) refl
ended false bytes i h = rw (drop_all i bytes h) refl

-- the bytes that need no backslash, and what is written of those behind them
pub unquoted_front : (s : List ℕ) → front is_unquoted s ++ flat_map in_string (behind is_unquoted s) ≡ flat_map in_string s
unquoted_front [] = refl
unquoted_front (c ∷ t) = by (is_quoted c) refl (unquoted_front t)
  where
    by : (b : Bool) → is_quoted c ≡ b → front is_unquoted t ++ flat_map in_string (behind is_unquoted t) ≡ flat_map in_string t
        → take (cond (not b) (1 + prefix_len is_unquoted t) 0) (c ∷ t) ++ flat_map in_string (drop (cond (not b) (1 + prefix_len is_unquoted t) 0) (c ∷ t))
        ≡ (cond b (92 ∷ c ∷ []) (c ∷ [])) ++ flat_map in_string t
    by true is rest = rw is refl
    by false is rest =
        let one : 1 + prefix_len is_unquoted t ≡ suc (prefix_len is_unquoted t) = omega arith in rw one (ap (λ (s : List ℕ). c ∷ s) rest)

-- the bytes that stand for themselves, and what stands behind them
pub plain_front : (bytes : List ℕ) → with_front (front is_plain bytes) (string_rest false (behind is_plain bytes)) ≡ string_rest false bytes
unfolding string_rest
plain_front [] = with_front_none (string_rest false [])
plain_front (c ∷ t) = by (is_plain c) refl (plain_front t)
  where
    more : (held : List ℕ) (read : Option (List ℕ × List ℕ)) → with_front (c ∷ held) read ≡ with_byte c (with_front held read)
    more held None = refl
    more held (Some x) = refl

    plain_next : is_plain c ≡ true → string_rest false (c ∷ t) ≡ with_byte c (string_rest false t)
    plain_next is =
        let quote : (c == 34) ≡ false = grind (arith, is, nat_tests) in
        let slash : (c == 92) ≡ false = grind (arith, is, nat_tests) in
        let byte : is_string_byte c ≡ true = grind (arith, is, nat_tests) in rw (quote, slash, byte) refl

    by : (b : Bool) → is_plain c ≡ b → with_front (front is_plain t) (string_rest false (behind is_plain t)) ≡ string_rest false t
        → with_front (front is_plain (c ∷ t)) (string_rest false (behind is_plain (c ∷ t))) ≡ string_rest false (c ∷ t)
    by true is rest =
        let one : 1 + prefix_len is_plain t ≡ suc (prefix_len is_plain t) = omega arith in
        rw (is, one) (more (front is_plain t) (string_rest false (behind is_plain t)) ∙ ap (with_byte c) rest ∙ sym (plain_next is))
    by false is rest = rw is (with_front_none (string_rest false (c ∷ t)))

pub ruleset string_steps = (with_front_push, with_front_none, opened_true, opened_false, ended)

pub closed : (held bytes : List ℕ) (i : ℕ) (total : Option (List ℕ × List ℕ)) → i < length bytes → get_or bytes i 0 ≡ 34
    → with_front held (string_rest false (drop i bytes)) ≡ total
    → total ≡ Some (held, take (length bytes - (i + 1)) (drop (i + 1) bytes))
closed held bytes i total within is so_far =
    let test : (get_or bytes i 0 == 34) ≡ true = grind (arith, nat_tests) in
    let e : string_rest false (drop i bytes) ≡ Some ([], drop (i + 1) bytes) = opened_false bytes i within ∙ rw test refl in
    sym so_far ∙ ap (with_front held) e ∙ rw (append-nil held, take_rest bytes (i + 1)) refl

pub refused : (held bytes : List ℕ) (i : ℕ) (total : Option (List ℕ × List ℕ)) → i < length bytes → (get_or bytes i 0 ≡ 34 → ⊥) → (get_or bytes i 0 ≡ 92 → ⊥)
    → is_string_byte (get_or bytes i 0) ≡ false
    → with_front held (string_rest false (drop i bytes)) ≡ total → total ≡ None
refused held bytes i total within not_quote not_slash other so_far =
    let quote : (get_or bytes i 0 == 34) ≡ false = grind (arith, nat_tests) in
    let slash : (get_or bytes i 0 == 92) ≡ false = grind (arith, nat_tests) in
    let e : string_rest false (drop i bytes) ≡ None = opened_false bytes i within ∙ rw (quote, slash, other) refl in
    sym so_far ∙ ap (with_front held) e

-- a run as far as a loop has come
module _ (p : ℕ → Bool) (bytes : List ℕ) (i : ℕ) (so_far : prefix_len p bytes ≡ i + prefix_len p (drop i bytes)) where
  pub run_further : i < length bytes → p (get_or bytes i 0) ≡ true → prefix_len p bytes ≡ (i + 1) + prefix_len p (drop (i + 1) bytes)
  run_further within is =
      let one : prefix_len p (drop i bytes) ≡ 1 + prefix_len p (drop (i + 1) bytes) = ap (prefix_len p) (drop_more bytes i 0 within) ∙ rw is refl in
      omega (arith, so_far, one)

  pub run_stops : i < length bytes → p (get_or bytes i 0) ≡ false → i ≡ prefix_len p bytes
  run_stops within is = let none = prefix_len-drop_no p bytes i 0 within is in omega (arith, so_far, none)

  pub run_spent : length bytes ≤ i → i ≤ length bytes → length bytes ≡ prefix_len p bytes
  run_spent least most = let none = prefix_len-drop_all p bytes i least in omega (arith, so_far, none, least, most)
