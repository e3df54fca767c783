-- The number of a text's first bytes.
use Rattle.std.proofs.Common.{◌≡◌, ◌∙◌, ℕ, ◌+◌, ◌-◌, ◌<◌, ◌≤◌, List, ◌++◌, length, min, nat_le, refl, ap, sym, arith, zero, suc, inl, inr, get_or, take, drop, replicate}
use Rattle.std.specs.Int.{sum_through, byte_worth, from_be_bytes, w64}
use Rattle.std.proofs.lemmas.Bool.{cases_Bool, leb-true, leb-false}
use Rattle.std.proofs.lemmas.List.{get_or_append_left, get_or-append_right, get_or-take, get_or-drop, get_or_past, length-take}

same_through : (f g : ℕ → ℕ) (k : ℕ) → ((i : ℕ) → i ≤ k → f i ≡ g i) → sum_through f k ≡ sum_through g k
same_through f g zero same = same 0 (omega arith)
same_through f g (suc k) same =
    let before = same_through f g k (λ i le. same i (omega (arith, le))) in
    let last = same (suc k) (omega arith) in
    omega (arith, before, last)

all_zero : (count i : ℕ) → get_or {A = ℕ} (replicate count 0) i 0 ≡ 0
all_zero zero i = refl
all_zero (suc count) zero = refl
all_zero (suc count) (suc i) = all_zero count i

-- zeros stand where the text has no more bytes
filled_at : (text : List ℕ) (n i : ℕ) → n ≡ min (length text) 8 → i < 8 → get_or (take n text ++ drop n (replicate 8 0)) i 0 ≡ get_or text i 0
filled_at text n i is below = elim (cases_Bool (nat_le n i)) [
  | inl past ↦
      let le = leb-true n i past in
      get_or-append_right (take n text) (drop n (replicate 8 0)) n i 0 taken le ∙ get_or-drop n (replicate 8 0) (i - n) 0 ∙ all_zero 8 (n + (i - n))
      ∙ sym (get_or_past text i 0 (grind (arith, is, le, below)))
  | inr before ↦
      let lt = leb-false n i before in
      get_or_append_left (take n text) (drop n (replicate 8 0)) 0 i (omega (arith, lt, taken)) ∙ get_or-take n text i 0 lt
]
  where
    taken : length (take n text) ≡ n
    taken = let len = length-take n text in grind (arith, len, is)

-- a text's first eight bytes, over zeros, have its number
pub filled_number : (text front : List ℕ) (n : ℕ) → n ≡ min (length text) 8 → front ≡ take n text
    → from_be_bytes w64 (front ++ drop n (replicate 8 0)) ≡ from_be_bytes w64 text
filled_number text front n is copied =
    same_through (λ i. byte_worth (7 - i) (get_or (front ++ drop n (replicate 8 0)) i 0)) (λ i. byte_worth (7 - i) (get_or text i 0)) 7
    (λ i le. ap (byte_worth (7 - i)) (ap (λ (xs : List ℕ). get_or (xs ++ drop n (replicate 8 0)) i 0) copied ∙ filled_at text n i is (omega (arith, le))))
