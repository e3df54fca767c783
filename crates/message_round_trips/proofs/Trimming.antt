-- A value that was trimmed has nothing more to be trimmed.
use Rattle.std.proofs.Common.{◌≡◌, ◌∙◌, ℕ, suc, ◌≤◌, Bool, true, false, List, [], ◌∷◌, ◌++◌, length, reverse, refl, sym, ap, subst, arith}
use Rattle.std.proofs.lemmas.List.{reverse-append, reverse-reverse}
use Rattle.httparse.specs.Grammar.{is_ows, skip_ows, trim_ows}
use Rattle.httparse.proofs.TrimLemmas.{trim_ows_space}

skip_twice : (t : List ℕ) → skip_ows (skip_ows t) ≡ skip_ows t
skip_twice [] = refl
skip_twice (c ∷ t) = by (skip_twice t) (is_ows c) refl
  where
    by : skip_ows (skip_ows t) ≡ skip_ows t → (b : Bool) → is_ows c ≡ b → skip_ows (skip_ows (c ∷ t)) ≡ skip_ows (c ∷ t)
    by later true e = rw e later
    by later false e = rw (e, e) refl

skip_short : (t : List ℕ) → length (skip_ows t) ≤ length t
skip_short [] = omega arith
skip_short (c ∷ t) = by (skip_short t) (is_ows c) refl
  where
    by : length (skip_ows t) ≤ length t → (b : Bool) → is_ows c ≡ b → length (skip_ows (c ∷ t)) ≤ length (c ∷ t)
    by less true e = rw e (omega (arith, less))
    by less false e = rw e (omega arith)

-- what is skipped stands before the rest
record Skipped (t : List ℕ) : Type 0 where
  blanks : List ℕ
  is : t ≡ blanks ++ skip_ows t

skipped : (t : List ℕ) → Skipped t
skipped [] = record { blanks = []; is = refl }
skipped (c ∷ t) = by (skipped t) (is_ows c) refl
  where
    by : Skipped t → (b : Bool) → is_ows c ≡ b → Skipped (c ∷ t)
    by rest true e = record { blanks = c ∷ rest.blanks; is = rw e (ap (λ (u : List ℕ). c ∷ u) rest.is) }
    by rest false e = record { blanks = []; is = rw e refl }

-- a text that begins another one from which nothing is skipped
front_stays : (t more : List ℕ) → skip_ows (t ++ more) ≡ t ++ more → skip_ows t ≡ t
front_stays [] more e = refl
front_stays (c ∷ t) more e = by (is_ows c) refl
  where
    by : (b : Bool) → is_ows c ≡ b → skip_ows (c ∷ t) ≡ c ∷ t
    by false f = rw f refl
    by true f =
        let here : skip_ows (c ∷ t ++ more) ≡ skip_ows (t ++ more) = rw f refl in
        let size : length (skip_ows (t ++ more)) ≡ suc (length (t ++ more)) = ap length (sym here ∙ e) in
        let less = skip_short (t ++ more) in
        absurd (omega (arith, size, less))

pub trim_twice : (t : List ℕ) → trim_ows (trim_ows t) ≡ trim_ows t
unfolding trim_ows
trim_twice t =
    let u : List ℕ = skip_ows t in
    let v : List ℕ = skip_ows (reverse u) in
    let cut = skipped (reverse u) in
    let parts : u ≡ reverse v ++ reverse cut.blanks = sym (reverse-reverse u) ∙ ap reverse cut.is ∙ reverse-append cut.blanks v in
    let front : skip_ows (reverse v) ≡ reverse v =
    front_stays (reverse v) (reverse cut.blanks) (subst (λ w. skip_ows w ≡ w) parts (skip_twice t)) in
    trim_ows_space (reverse v) front (ap skip_ows (reverse-reverse v) ∙ skip_twice (reverse u) ∙ sym (reverse-reverse v))
