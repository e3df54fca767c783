-- A drawn user code is none of the taken ones, as there are more codes than may be taken.
use Rattle.std.proofs.Common.{ℕ, zero, suc, ◌≡◌, ◌<◌, ◌+◌, ◌⊎◌, inl, inr, Bool, true, false, List, [], ◌∷◌, ◌++◌, length, take, refl, sym, ◌∙◌, ap, subst, arith, length-append}
use Rattle.std.specs.Prelude.{◌/◌, ◌%◌, ◌^◌, ◌||◌, ◌==◌, codes, slice_index, if◌then◌else◌}
use Rattle.std.specs.List.{list_any, IsDistinct, AllByRecursion}
use Rattle.std.specs.Set.{is_member}
use Rattle.std.specs.Str.{bytes_eq}
use Rattle.std.proofs.Math.Nat.{pow-suc}
use Rattle.std.proofs.Math.Seq.{take-append_seam}
use Rattle.std.proofs.lemmas.Bool.{agree_below_at, eqb-true, false_from_ne_true, or_cases, cases_Bool}
use Rattle.std.proofs.lemmas.Cmp.{nat_list_eq_equiv}
use Rattle.std.proofs.lemmas.List.{append_cancel_left}
use Rattle.std.proofs.lemmas.Slice.Eq.{bytes_eq-Decides}
use Rattle.std.proofs.lemmas.Map.Made.{length-le_from_is_member}
use Rattle.gnap_model.specs.Common.{Text, same_text}
use Rattle.gnap_model.specs.Values.{code_digits, code_text, code_count, free_code}

-- ---- different numbers have different codes

abbrev letter : ℕ → ℕ
letter digit = slice_index (codes "BCDFGHJKLMNPQRSTVWXZ") digit

-- the place of a number in a list
abbrev place_in : List ℕ → ℕ → ℕ
place_in [] x = 0
place_in (y ∷ ys) x = if x == y then 0 else place_in ys x + 1

abbrev place_of : ℕ → ℕ
place_of x = place_in (codes "BCDFGHJKLMNPQRSTVWXZ") x

letter_place : (digit : ℕ) → digit < 20 → place_of (letter digit) ≡ digit
letter_place digit low = eqb-true (place_of (letter digit)) digit (agree_below_at (λ k. place_of (letter k) == k) (λ k. true) 20 digit refl low)

letter_injective : (i j : ℕ) → i < 20 → j < 20 → letter i ≡ letter j → i ≡ j
letter_injective i j low also e = sym (letter_place i low) ∙ ap place_of e ∙ letter_place j also

length-code_digits : (places number : ℕ) → length (code_digits places number) ≡ places
length-code_digits zero number = refl
length-code_digits (suc places) number =
    let l = length-append (code_digits places (number / 20)) (letter (number % 20) ∷ []) in
    let rest = length-code_digits places (number / 20) in omega arith

-- texts of one length with one more letter each
last_same : (xs ys : List ℕ) (x y : ℕ) → length xs ≡ length ys → xs ++ x ∷ [] ≡ ys ++ y ∷ [] → (xs ≡ ys) × (x ≡ y)
last_same xs ys x y same e =
    let front : xs ≡ ys = sym (take-append_seam xs (x ∷ [])) ∙ ap (take (length xs)) e ∙ ap (λ n. take n (ys ++ y ∷ [])) same ∙ take-append_seam ys (y ∷ []) in
    let back : x ∷ [] ≡ y ∷ [] = append_cancel_left ys (x ∷ []) (y ∷ []) (ap (λ (zs : List ℕ). zs ++ x ∷ []) (sym front) ∙ e) in
    (front, cc back)

digits_injective : (places a b : ℕ) → a < 20 ^ places → b < 20 ^ places → code_digits places a ≡ code_digits places b → a ≡ b
digits_injective zero a b low also e = omega arith
digits_injective (suc places) a b low also e =
    let power = pow-suc 20 places in
    let parts = last_same (code_digits places (a / 20)) (code_digits places (b / 20)) (letter (a % 20)) (letter (b % 20))
    (length-code_digits places (a / 20) ∙ sym (length-code_digits places (b / 20))) e in
    let front : a / 20 ≡ b / 20 = digits_injective places (a / 20) (b / 20) (omega arith) (omega arith) parts.0 in
    let back : a % 20 ≡ b % 20 = letter_injective (a % 20) (b % 20) (omega arith) (omega arith) parts.1 in omega arith

code_injective : (a b : ℕ) → a < code_count → b < code_count → code_text a ≡ code_text b → a ≡ b
unfolding code_text
code_injective a b low also e = digits_injective 8 a b low also e

-- ---- the codes that are tried are all different

abbrev candidate : ℕ → Text
candidate number = code_text (number % code_count)

abbrev candidates : ℕ → ℕ → List Text
candidates zero number = candidate number ∷ []
candidates (suc tries) number = candidate number ∷ candidates tries (number + 1)

length-candidates : (tries number : ℕ) → length (candidates tries number) ≡ tries + 1
length-candidates zero number = refl
length-candidates (suc tries) number = let rest = length-candidates tries (number + 1) in omega arith

differ : (a b : ℕ) → a < b → b < a + code_count → bytes_eq (candidate a) (candidate b) ≡ false
differ a b below near = false_from_ne_true (bytes_eq (candidate a) (candidate b))
    (λ e.
    let same : a % code_count ≡ b % code_count = code_injective (a % code_count) (b % code_count) (omega arith) (omega arith)
    ((bytes_eq-Decides (candidate a) (candidate b)).0 e) in
    omega arith)

apart : (tries a b : ℕ) → a < b → b + tries < a + code_count → AllByRecursion (λ code. bytes_eq (candidate a) code ≡ false) (candidates tries b)
apart zero a b below near = (differ a b below (omega arith), tt)
apart (suc tries) a b below near = (differ a b below (omega arith), apart tries a (b + 1) (omega arith) (omega arith))

distinct : (tries number : ℕ) → tries < code_count → IsDistinct bytes_eq (candidates tries number)
unfolding IsDistinct
distinct zero number few = (tt, tt)
distinct (suc tries) number few = (apart tries number (number + 1) (omega arith) (omega arith), distinct tries (number + 1) (omega arith))

-- ---- so not all of them are taken

-- the code that is found is free, or each one that was tried is taken
free_or_taken : (tries number : ℕ) (taken : List Text)
    → (list_any (same_text (free_code tries number taken)) taken ≡ false)
    ⊎ ((code : Text) → is_member bytes_eq (candidates tries number) code ≡ true → is_member bytes_eq taken code ≡ true)
free_or_taken zero number taken = elim (cases_Bool (is_member bytes_eq taken (candidate number))) [
  | inl is ↦ inr (λ code h. taken_too taken code (candidate number) is (only code (candidate number) h))
  | inr is ↦ inl is
]
  where
    only : (code other : Text) → (bytes_eq code other || false) ≡ true → code ≡ other
    only code other h = elim (or_cases (bytes_eq code other) false h) [ inl e ↦ (bytes_eq-Decides code other).0 e | inr e ↦ cc e ]

    taken_too : (taken : List Text) (code other : Text) → is_member bytes_eq taken other ≡ true → code ≡ other → is_member bytes_eq taken code ≡ true
    taken_too taken code other is e = subst (λ (x : Text). is_member bytes_eq taken x ≡ true) (sym e) is
free_or_taken (suc tries) number taken = at (is_member bytes_eq taken (candidate number)) refl (free_or_taken tries (number + 1) taken)
  where
    Rest : Type 0
    Rest = (list_any (same_text (free_code tries (number + 1) taken)) taken ≡ false)
        ⊎ ((code : Text) → is_member bytes_eq (candidates tries (number + 1)) code ≡ true → is_member bytes_eq taken code ≡ true)

    at : (b : Bool) → is_member bytes_eq taken (candidate number) ≡ b → Rest
        → (list_any (same_text (if b then free_code tries (number + 1) taken else candidate number)) taken ≡ false)
        ⊎ ((code : Text) → is_member bytes_eq (candidates (suc tries) number) code ≡ true → is_member bytes_eq taken code ≡ true)
    at false is rest = inl is
    at true is (inl free) = inl free
    at true is (inr all) = inr (λ code h. elim (or_cases (bytes_eq code (candidate number)) (is_member bytes_eq (candidates tries (number + 1)) code) h) [
      | inl e ↦ subst (λ (x : Text). is_member bytes_eq taken x ≡ true) (sym ((bytes_eq-Decides code (candidate number)).0 e)) is
      | inr more ↦ all code more
    ])

-- Where fewer codes are taken than there are, the code that is found is none of them.
pub free_code_free : (number : ℕ) (taken : List Text) → length taken < code_count → list_any (same_text (free_code (length taken) number taken)) taken ≡ false
free_code_free number taken few = elim (free_or_taken (length taken) number taken) [
  | inl free ↦ free
  | inr all ↦
      let more = length-le_from_is_member nat_list_eq_equiv (candidates (length taken) number) taken (distinct (length taken) number few) all in
      let l = length-candidates (length taken) number in absurd (omega arith)
]
