-- What an array's `map` gives, where its closure changes no capture.
use Rattle.std.proofs.Common.{◌≡◌, ◌∙◌, sym, ap, subst, arith, ℕ, zero, suc, ◌+◌, ◌<◌, List, length, map, get_or, zero-add}
use Rattle.std.specs.Array.{MapsFrom, IsMapOf}
use Rattle.std.specs.Fn.{Mut, Called}
use Rattle.std.proofs.lemmas.List.{ext_get_or, length-map, get_or-map}

module _ {F : Type 0} (g : Mut F (ℕ × Unit {0}) ℕ) (h : ℕ → ℕ) (f : F) (xs ys : List ℕ)
    (call : (x y : ℕ) (after : F) → Called g f (x, tt) y after → (y ≡ h x) × (after ≡ f)) where
  each : (i n : ℕ) → MapsFrom g f xs ys i n → (k : ℕ) → k < n → get_or ys (i + k) 0 ≡ h (get_or xs (i + k) 0)
  each i zero maps k lt = absurd (omega arith)
  each i (suc n) (after, x, y, from, to, called, rest) zero lt =
      let at : i + 0 ≡ i = omega arith in
      rw at (to.1 0 ∙ (call x y after called).0 ∙ ap h (sym (from.1 0)))
  each i (suc n) (after, x, y, from, to, called, rest) (suc k) lt =
      let at : i + suc k ≡ (i + 1) + k = omega arith in
      rw at (each (i + 1) n (subst (λ (p : F). MapsFrom g p xs ys (i + 1) n) (call x y after called).1 rest) k (omega arith))

  pub mapped : (n : ℕ) → length xs ≡ n → IsMapOf g f xs ys n → ys ≡ map h xs
  mapped n long of = ext_get_or 0 ys (map h xs) (of.long ∙ sym long ∙ sym (length-map xs h))
      (λ k lt. at k (omega (arith, of.long)) ∙ sym (get_or-map h xs k 0 0 (omega (arith, of.long, long))))
    where
      at : (k : ℕ) → k < n → get_or ys k 0 ≡ h (get_or xs k 0)
      at k lt = subst (λ (i : ℕ). get_or ys i 0 ≡ h (get_or xs i 0)) (zero-add k) (each 0 n of.each k lt)
