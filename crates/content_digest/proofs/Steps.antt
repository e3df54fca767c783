-- One entry of a list after the other.
use Rattle.std.proofs.Common.{◌≡◌, ℕ, zero, suc, ◌+◌, Bool, true, false, List, [], ◌∷◌, drop, slice_get, Option, Some, None, Ok, Err, refl, sym, ap, ◌∙◌, subst, arith}
use Rattle.std.specs.Prelude.{codes}
use Rattle.std.specs.List.{list_all, list_any}
use Rattle.sha2.specs.Sha256.{sha256}
use Rattle.structured_fields.specs.declared.item.Member.{Member}
use Rattle.structured_fields.specs.Reading.{or_some, dictionary_of}
use Rattle.structured_fields.specs.SoleMember.{sole_sequence}
use Rattle.content_digest.specs.declared.fault.DigestFault.{DigestFault}
use Rattle.content_digest.specs.declared.fault.DigestFault.TheVariants.{NotAField, NoKnown, Differs, OutOfMemory}
use Rattle.content_digest.specs.Judged.{other_than, difference, first_difference, answer_to, judged, checked, Gives}

module _ {X : Type 0} where
  -- what is left of a list, by its next element
  pub opened : (xs : List X) (i : ℕ) (x : X) → slice_get xs i ≡ Some x → drop i xs ≡ x ∷ drop (i + 1) xs
  opened [] i x e = absurd cc
  opened (y ∷ xs) zero x e = let same : y ≡ x = cc in ap (λ (z : X). z ∷ xs) same
  opened (y ∷ xs) (suc i) x e = let k : suc i + 1 ≡ suc (i + 1) = omega arith in rw k (opened xs i x e)

  module _ (p : X → Bool) (xs : List X) (i : ℕ) (x : X) (total : Bool) (at : slice_get xs i ≡ Some x) where
    pub all_stop : list_all p (drop i xs) ≡ total → p x ≡ false → false ≡ total
    all_stop so_far h = sym (ap (list_all p) (opened xs i x at) ∙ rw h refl) ∙ so_far

    pub all_more : list_all p (drop i xs) ≡ total → p x ≡ true → list_all p (drop (i + 1) xs) ≡ total
    all_more so_far h = sym (ap (list_all p) (opened xs i x at) ∙ rw h refl) ∙ so_far

    pub any_stop : list_any p (drop i xs) ≡ total → p x ≡ true → true ≡ total
    any_stop so_far h = sym (ap (list_any p) (opened xs i x at) ∙ rw h refl) ∙ so_far

    pub any_more : list_any p (drop i xs) ≡ total → p x ≡ false → list_any p (drop (i + 1) xs) ≡ total
    any_more so_far h = sym (ap (list_any p) (opened xs i x at) ∙ rw h refl) ∙ so_far

no_difference : (o : Option (List ℕ × List ℕ)) → answer_to o ≡ Ok tt → o ≡ None
no_difference None e = refl
no_difference (Some p) e = absurd cc

module _ (body : List ℕ) (d : List (List ℕ × Member)) (i : ℕ) (e : List ℕ × Member) (total : Option (List ℕ × List ℕ)) (at : slice_get d i ≡ Some e)
    (so_far : first_difference body (drop i d) ≡ total) where
  here : or_some (difference body e) (first_difference body (drop (i + 1) d)) ≡ total
  here = sym (ap (first_difference body) (opened d i e at)) ∙ so_far

  pub differ_more : answer_to (difference body e) ≡ Ok tt → first_difference body (drop (i + 1) d) ≡ total
  differ_more h = sym (ap (λ (o : Option (List ℕ × List ℕ)). or_some o (first_difference body (drop (i + 1) d))) (no_difference (difference body e) h)) ∙ here

  pub differ_stop : (r : DigestFault) → Gives (Err r) (answer_to (difference body e)) → Gives (Err r) (answer_to total)
  differ_stop r h = by (difference body e) h here
    where
      by : (o : Option (List ℕ × List ℕ)) → Gives (Err r) (answer_to o) → or_some o (first_difference body (drop (i + 1) d)) ≡ total
          → Gives (Err r) (answer_to total)
      by (Some p) h k = subst (λ (o : Option (List ℕ × List ℕ)). Gives (Err r) (answer_to o)) k h
      by None h k = never r h
        where
          never : (r : DigestFault) → Gives (Err r) (Ok tt) → Gives (Err r) (answer_to total)
          never NotAField h = absurd cc
          never NoKnown h = absurd cc
          never (Differs wanted found) h = absurd cc
          never OutOfMemory h = tt

or_none : (o : Option (List ℕ × List ℕ)) → or_some o None ≡ o
or_none None = refl
or_none (Some p) = refl

-- a field that is one digest and nothing else
pub sole_judged : (field body bytes : List ℕ) → dictionary_of field ≡ Some (sole_sequence (codes "sha-256") bytes)
    → checked field body ≡ answer_to (other_than (sha256 body) (Some bytes))
unfolding checked judged
sole_judged field body bytes e = rw e (ap answer_to (or_none (other_than (sha256 body) (Some bytes))))
