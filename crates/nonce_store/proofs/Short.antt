-- That what is remembered is short.
use Rattle.std.proofs.Common.{◌≡◌, ◌∙◌, ℕ, Bool, true, false, true≢false, cond, ◌&&◌, List, refl, ap, sym, Option, Some, None}
use Rattle.std.specs.Str.{bytes_eq}
use Rattle.std.proofs.lemmas.Slice.Eq.{bytes_eq-Decides}
use Rattle.nonce_store.specs.Kept.{Keys, until_in, are_short, AreShort}
use Rattle.nonce_store.proofs.Covered.{still}

-- a long text isn't there
pub long_absent : (keys : Keys) (key nonce : List ℕ) → AreShort keys → are_short key nonce ≡ false → until_in keys key nonce ≡ None
long_absent keys key nonce short long = by (until_in keys key nonce) refl
  where
    by : (o : Option ℕ) → until_in keys key nonce ≡ o → o ≡ None
    by None is = refl
    by (Some until) is = absurd (true≢false (sym (short key nonce until is) ∙ long))

pub short_put : (keys new : Keys) (key nonce kept_key kept_nonce : List ℕ) (end : ℕ) → AreShort keys → kept_key ≡ key → kept_nonce ≡ nonce
    → are_short key nonce ≡ true
    → ((k n : List ℕ) → until_in new k n ≡ cond (bytes_eq kept_key k && bytes_eq kept_nonce n) (Some end) (until_in keys k n)) → AreShort new
short_put keys new key nonce kept_key kept_nonce end short key_is nonce_is here rows k n until is =
    by (bytes_eq kept_key k) (bytes_eq kept_nonce n) refl refl (sym (rows k n) ∙ is)
  where
    by : (x y : Bool) → bytes_eq kept_key k ≡ x → bytes_eq kept_nonce n ≡ y → cond (x && y) (Some end) (until_in keys k n) ≡ Some until → are_short k n ≡ true
    by true true k_is n_is at =
        ap (λ (q : List ℕ). are_short q n) (sym ((bytes_eq-Decides kept_key k).0 k_is) ∙ key_is)
        ∙ ap (are_short key) (sym ((bytes_eq-Decides kept_nonce n).0 n_is) ∙ nonce_is) ∙ here
    by true false k_is n_is at = short k n until at
    by false y k_is n_is at = short k n until at

pub short_same : (keys new : Keys) → AreShort keys → ((k n : List ℕ) → until_in new k n ≡ until_in keys k n) → AreShort new
short_same keys new short rows k n until is = short k n until (sym (rows k n) ∙ is)

pub short_less : (keys new : Keys) (gone : List ℕ → List ℕ → Bool) → AreShort keys
    → ((k n : List ℕ) → until_in new k n ≡ cond (gone k n) None (until_in keys k n)) → AreShort new
short_less keys new gone short rows k n until is = short k n until (still (gone k n) (until_in keys k n) until (sym (rows k n) ∙ is))
