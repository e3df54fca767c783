-- Lists whose XORs at each place are zero.
use Rattle.std.proofs.Common.{◌≡◌, ◌↔◌, ℕ, ◌+◌, ◌<◌, List, length, get_or, take, refl, sym, ap, ◌∙◌, arith}
use Rattle.std.specs.Prelude.{bit_or, bit_xor}
use Rattle.std.specs.Int.Bits.{xor_self, xor_assoc, xor_zero_l, xor_zero_r}
use Rattle.std.proofs.lemmas.Nat.{le_or_l, le_or_r}
use Rattle.std.proofs.lemmas.List.{take_more, same_from_push}

same_from_xor : (a b : ℕ) → bit_xor a b ≡ 0 → a ≡ b
same_from_xor a b h = sym (xor_zero_r a) ∙ ap (bit_xor a) (sym h) ∙ sym (xor_assoc a a b) ∙ ap (λ n. bit_xor n b) (xor_self a) ∙ xor_zero_l b

module _ (a b : List ℕ) (seen i : ℕ) (in_a : i < length a) (in_b : i < length b) (so_far : (seen ≡ 0) ↔ (take i a ≡ take i b)) where
  abbrev x : ℕ
  x = get_or a i 0

  abbrev y : ℕ
  y = get_or b i 0

  -- one place more
  pub differences_more : (bit_or seen (bit_xor x y) ≡ 0) ↔ (take (i + 1) a ≡ take (i + 1) b)
  differences_more = (
    λ h.
        let none : seen ≡ 0 = omega (arith, le_or_l seen (bit_xor x y)) in
        let same : bit_xor x y ≡ 0 = omega (arith, le_or_r seen (bit_xor x y)) in
        rw (take_more a i 0 in_a, take_more b i 0 in_b, so_far.0 none, same_from_xor x y same) refl,
    λ e.
        let parts = same_from_push (take i a) (take i b) x y (sym (take_more a i 0 in_a) ∙ e ∙ take_more b i 0 in_b) in
        rw (so_far.1 parts.0, parts.1, xor_self y) refl,
  )
