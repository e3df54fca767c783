-- Strings.
use Rattle.std.proofs.Common.{◌≡◌, ℕ, ◌==◌, Bool, true, false, cond, inl, inr, List, [], ◌∷◌, ◌++◌, Option, Some, None, refl, sym, ap, subst, ◌∙◌, arith, append_assoc}
use Rattle.std.proofs.lemmas.Bool.{and_parts, or_parts}
use Rattle.std.specs.List.{list_all, flat_map}
use Rattle.std.proofs.lemmas.Bool.Decides.{nat_tests}
use Rattle.std.proofs.lemmas.List.Concat.{flat_map-cons}
use Rattle.structured_fields.specs.Letters.{is_quoted, is_string_byte}
use Rattle.structured_fields.specs.Grammar.{in_string}
use Rattle.structured_fields.specs.Reading.{with_byte, string_rest}
use Rattle.structured_fields.proofs.Fronts.{chosen, given, some_is}

pub string_again : (s rest : List ℕ) → list_all is_string_byte s ≡ true → string_rest false (flat_map in_string s ++ 34 ∷ rest) ≡ Some (s, rest)
unfolding string_rest
string_again [] rest all = refl
string_again (c ∷ s) rest all =
    let a = and_parts (is_string_byte c) (list_all is_string_byte s) all in
    let again = string_again s rest a.1 in
    let whole : flat_map in_string (c ∷ s) ++ 34 ∷ rest ≡ in_string c
    ++ (flat_map in_string s ++ 34 ∷ rest) = ap (λ (t : List ℕ). t ++ 34 ∷ rest) (flat_map-cons in_string c s)
    ∙ append_assoc (in_string c) (flat_map in_string s) (34 ∷ rest) in
    ap (string_rest false) whole ∙ by (is_quoted c) refl a.0 again
  where
    by : (b : Bool) → is_quoted c ≡ b → is_string_byte c ≡ true → string_rest false (flat_map in_string s ++ 34 ∷ rest) ≡ Some (s, rest)
        → string_rest false (cond b (92 ∷ c ∷ []) (c ∷ []) ++ (flat_map in_string s ++ 34 ∷ rest)) ≡ Some (c ∷ s, rest)
    by true q plain again = rw (q, again) refl
    by false q plain again = let n = or_parts (c == 34) (c == 92) q in rw (n.0, n.1, plain, again) refl

-- what with_byte gives
pub byte_given : (c : ℕ) (r : Option (List ℕ × List ℕ)) (x : List ℕ × List ℕ) → with_byte c r ≡ Some x
    → (y : List ℕ × List ℕ) × (r ≡ Some y) × (x ≡ (c ∷ y.0, y.1))
byte_given c None x e = absurd cc
byte_given c (Some y) x e = (y, refl, sym (some_is (c ∷ y.0, y.1) x e))

pub all_more : (p : ℕ → Bool) (c : ℕ) (s : List ℕ) → p c ≡ true → list_all p s ≡ true → list_all p (c ∷ s) ≡ true
all_more p c s a b = rw (a, b) refl

abbrev pub held_back : Bool → List ℕ
held_back escaped = cond escaped (92 ∷ []) []

pub record TakesString (escaped : Bool) (t : List ℕ) (x : List ℕ × List ℕ) : Type 0 where
  pub parts : held_back escaped ++ t ≡ flat_map in_string x.0 ++ 34 ∷ x.1
  pub all : list_all is_string_byte x.0 ≡ true

quoted_plain : (c : ℕ) → is_quoted c ≡ true → is_string_byte c ≡ true
quoted_plain c h = grind (arith, nat_tests)

pub string_takes : (escaped : Bool) (t : List ℕ) (x : List ℕ × List ℕ) → string_rest escaped t ≡ Some x → TakesString escaped t x
unfolding string_rest
string_takes true [] x e = absurd cc
string_takes false [] x e = absurd cc
string_takes true (c ∷ t) x e =
    let g = given (is_quoted c) (with_byte c (string_rest false t)) x e in
    let b = byte_given c (string_rest false t) x g.1 in
    let r = string_takes false t b.0 b.1 in
    let one : in_string c ≡ 92 ∷ c ∷ [] = rw g.0 refl in
    subst (TakesString true (c ∷ t)) (sym b.2) (record {
      parts = ap (λ (u : List ℕ). 92 ∷ c ∷ u) r.parts
          ∙ sym (ap (λ (u : List ℕ). u ++ 34 ∷ b.0.1) (flat_map-cons in_string c b.0.0 ∙ ap (λ (u : List ℕ). u ++ flat_map in_string b.0.0) one));
      all = all_more is_string_byte c b.0.0 (quoted_plain c g.0) r.all;
    })
string_takes false (c ∷ t) x e =
    elim (chosen (c == 34) (Some ([], t)) (cond (c == 92) (string_rest true t) (cond (is_string_byte c) (with_byte c (string_rest false t)) None)) (Some x) e) [
      | inl p ↦
          let k : c ≡ 34 = let q = p.0 in grind (arith, nat_tests, q) in
          subst (TakesString false (c ∷ t)) (some_is ([], t) x p.1) (record { parts = ap (λ (d : ℕ). d ∷ t) k; all = refl })
      | inr p ↦ elim (chosen (c == 92) (string_rest true t) (cond (is_string_byte c) (with_byte c (string_rest false t)) None) (Some x) p.1) [
        | inl q ↦
            let k : c ≡ 92 = let u = q.0 in grind (arith, nat_tests, u) in
            let r = string_takes true t x q.1 in
            record { parts = ap (λ (d : ℕ). d ∷ t) k ∙ r.parts; all = r.all }
        | inr q ↦
            let g = given (is_string_byte c) (with_byte c (string_rest false t)) x q.1 in
            let b = byte_given c (string_rest false t) x g.1 in
            let r = string_takes false t b.0 b.1 in
            let one : in_string c ≡ c ∷ [] = rw (p.0, q.0) refl in
            subst (TakesString false (c ∷ t)) (sym b.2) (record {
              parts = ap (λ (u : List ℕ). c ∷ u) r.parts
                  ∙ sym (ap (λ (u : List ℕ). u ++ 34 ∷ b.0.1) (flat_map-cons in_string c b.0.0 ∙ ap (λ (u : List ℕ). u ++ flat_map in_string b.0.0) one));
              all = all_more is_string_byte c b.0.0 g.0 r.all;
            })
      ]
    ]
