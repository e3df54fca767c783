-- Entries under names: what is set, what stands at a name, and that names stay distinct.
use Rattle.std.proofs.Common.{◌≡◌, ℕ, zero, suc, Bool, true, false, cond, List, [], ◌∷◌, ◌++◌, fold, slice_get, Some, None, refl, sym, ap, subst, ◌∙◌, append_assoc, true≢false}
use Rattle.std.specs.Str.{bytes_eq}
use Rattle.std.specs.List.{AllByRecursion}
use Rattle.std.proofs.lemmas.List.{append-nil}
use Rattle.std.proofs.lemmas.Slice.Eq.{bytes_eq-Decides}
use Rattle.structured_fields.specs.Named.{value_at, with_value, IsDistinct}

pub turned : (a b : List ℕ) → bytes_eq a b ≡ false → bytes_eq b a ≡ false
turned a b h = by (bytes_eq b a) refl
  where
    by : (r : Bool) → bytes_eq b a ≡ r → r ≡ false
    by false e = refl
    by true e = absurd (true≢false (sym ((bytes_eq-Decides a b).1 (sym ((bytes_eq-Decides b a).0 e))) ∙ h))

module _ {V : Type 0} where
  -- what stands at a name once one was set
  pub value_after : (es : List (List ℕ × V)) (n : List ℕ) (v : V) (m : List ℕ) → bytes_eq m n ≡ false → value_at (with_value es n v) m ≡ value_at es m
  value_after [] n v m apart = rw apart refl
  value_after (e ∷ es) n v m apart = by (bytes_eq n e.0) refl (value_after es n v m apart)
    where
      by : (b : Bool) → bytes_eq n e.0 ≡ b → value_at (with_value es n v) m ≡ value_at es m
          → value_at (cond b ((e.0, v) ∷ es) (e ∷ with_value es n v)) m ≡ value_at (e ∷ es) m
      by true t r = let other : bytes_eq m e.0 ≡ false = sym (ap (bytes_eq m) ((bytes_eq-Decides n e.0).0 t)) ∙ apart in rw other refl
      by false t r = ap (cond (bytes_eq m e.0) (Some e.1)) r

  -- names stay distinct
  pub distinct_set : (es : List (List ℕ × V)) (n : List ℕ) (v : V) → IsDistinct es → IsDistinct (with_value es n v)
  distinct_set [] n v d = (refl, tt)
  distinct_set (e ∷ es) n v d = by (bytes_eq n e.0) refl (distinct_set es n v d.1)
    where
      by : (b : Bool) → bytes_eq n e.0 ≡ b → IsDistinct (with_value es n v) → IsDistinct (cond b ((e.0, v) ∷ es) (e ∷ with_value es n v))
      by true t r = (d.0, d.1)
      by false t r = (value_after es n v e.0 (turned n e.0 t) ∙ d.0, r)

  pub value_set : (es : List (List ℕ × V)) (n : List ℕ) (v : V) → value_at (with_value es n v) n ≡ Some v
  value_set [] n v = rw ((bytes_eq-Decides n n).1 refl) refl
  value_set (e ∷ es) n v = by (bytes_eq n e.0) refl (value_set es n v)
    where
      by : (b : Bool) → bytes_eq n e.0 ≡ b → value_at (with_value es n v) n ≡ Some v → value_at (cond b ((e.0, v) ∷ es) (e ∷ with_value es n v)) n ≡ Some v
      by true t r = rw t refl
      by false t r = rw t r

  -- ---- entries of a list whose names are distinct

  -- a name that has no value isn't that of an entry
  pub apart_at : (es : List (List ℕ × V)) (m : List ℕ) → value_at es m ≡ None → (i : ℕ) (n : List ℕ) (v : V) → slice_get es i ≡ Some (n, v)
      → bytes_eq m n ≡ false
  apart_at [] m none = λ i n v e. absurd cc
  apart_at (x ∷ es) m none = by (bytes_eq m x.0) refl none (apart_at es m)
    where
      by : (b : Bool) → bytes_eq m x.0 ≡ b → cond b (Some x.1) (value_at es m) ≡ None
          → (value_at es m ≡ None → (i : ℕ) (n : List ℕ) (v : V) → slice_get es i ≡ Some (n, v) → bytes_eq m n ≡ false)
          → (i : ℕ) (n : List ℕ) (v : V) → slice_get (x ∷ es) i ≡ Some (n, v) → bytes_eq m n ≡ false
      by true t h again i n v e = absurd cc
      by false t h again zero n v e = let same : x ≡ (n, v) = cc in subst (λ (y : List ℕ × V). bytes_eq m y.0 ≡ false) same t
      by false t h again (suc i) n v e = again h i n v e

  apart_if : (qs : List (List ℕ × V)) (n : List ℕ) (v : V) (ps : List (List ℕ × V)) (m : List ℕ) → value_at (qs ++ (n, v) ∷ ps) m ≡ None → bytes_eq m n ≡ false
  apart_if [] n v ps m e = by (bytes_eq m n) refl e
    where
      by : (b : Bool) → bytes_eq m n ≡ b → cond b (Some v) (value_at ps m) ≡ None → b ≡ false
      by true p h = absurd cc
      by false p h = refl
  apart_if (q ∷ qs) n v ps m e = by (bytes_eq m q.0) e (apart_if qs n v ps m)
    where
      by : (b : Bool) → cond b (Some q.1) (value_at (qs ++ (n, v) ∷ ps) m) ≡ None → (value_at (qs ++ (n, v) ∷ ps) m ≡ None → bytes_eq m n ≡ false)
          → bytes_eq m n ≡ false
      by true h again = absurd cc
      by false h again = again h

  absent : (qs : List (List ℕ × V)) (n : List ℕ) (v : V) (ps : List (List ℕ × V)) → IsDistinct (qs ++ (n, v) ∷ ps) → value_at qs n ≡ None
  absent [] n v ps d = refl
  absent (q ∷ qs) n v ps d = rw (turned q.0 n (apart_if qs n v ps q.0 d.0)) (absent qs n v ps d.1)

  -- a new name goes last
  pub goes_last : (qs : List (List ℕ × V)) (n : List ℕ) (v : V) → value_at qs n ≡ None → with_value qs n v ≡ qs ++ (n, v) ∷ []
  goes_last [] n v e = refl
  goes_last (q ∷ qs) n v e = by (bytes_eq n q.0) e (goes_last qs n v)
    where
      by : (b : Bool) → cond b (Some q.1) (value_at qs n) ≡ None → (value_at qs n ≡ None → with_value qs n v ≡ qs ++ (n, v) ∷ [])
          → cond b ((q.0, v) ∷ qs) (q ∷ with_value qs n v) ≡ q ∷ qs ++ (n, v) ∷ []
      by true h again = absurd cc
      by false h again = ap (λ (r : List (List ℕ × V)). q ∷ r) (again h)

  -- entries set one after the other
  abbrev pub over : List (List ℕ × V) → List (List ℕ × V) → List (List ℕ × V)
  over es gs = fold (λ qs g. with_value qs g.0 g.1) es gs

  -- distinct entries set one after the other are the same entries
  pub stays : (qs ps : List (List ℕ × V)) → IsDistinct (qs ++ ps) → over qs ps ≡ qs ++ ps
  stays qs [] d = sym (append-nil qs)
  stays qs (p ∷ ps) d =
      let last : with_value qs p.0 p.1 ≡ qs ++ p ∷ [] = goes_last qs p.0 p.1 (absent qs p.0 p.1 ps d) in
      let whole : (qs ++ p ∷ []) ++ ps ≡ qs ++ (p ∷ ps) = append_assoc qs (p ∷ []) ps in
      ap (λ (r : List (List ℕ × V)). over r ps) last ∙ stays (qs ++ p ∷ []) ps (subst IsDistinct (sym whole) d) ∙ whole

  pub distinct_over : (es gs : List (List ℕ × V)) → IsDistinct es → IsDistinct (over es gs)
  distinct_over es [] d = d
  distinct_over es (g ∷ gs) d = distinct_over (with_value es g.0 g.1) gs (distinct_set es g.0 g.1 d)

  module _ (P : List ℕ × V → Type 0) where
    all_set : (es : List (List ℕ × V)) (n : List ℕ) (v : V) → AllByRecursion P es → P (n, v) → AllByRecursion P (with_value es n v)
    all_set [] n v all one = (one, tt)
    all_set (e ∷ es) n v all one = by (bytes_eq n e.0) refl (all_set es n v all.1 one)
      where
        by : (b : Bool) → bytes_eq n e.0 ≡ b → AllByRecursion P (with_value es n v) → AllByRecursion P (cond b ((e.0, v) ∷ es) (e ∷ with_value es n v))
        by true t r = (subst (λ (m : List ℕ). P (m, v)) ((bytes_eq-Decides n e.0).0 t) one, all.1)
        by false t r = (all.0, r)

    -- what holds of each entry that is set holds of all
    pub all_over : (es gs : List (List ℕ × V)) → AllByRecursion P es → AllByRecursion P gs → AllByRecursion P (over es gs)
    all_over es [] all ones = all
    all_over es (g ∷ gs) all ones = all_over (with_value es g.0 g.1) gs (all_set es g.0 g.1 all ones.0) ones.1
