-- What holds of the texts and values of `Grammar`, of the canonical texts, and of the functions that read whole texts.
use Rattle.std.specs.Prelude.{◌≡◌, ℕ, List, Option, Some, None}
use Rattle.base64.specs.GeneralPurpose.{IsBytes}

module _ {V : Type 0} (IsText : List ℕ → V → Type 0) where
  -- a text has one value at most
  pub record HasOneValue : Type 0 where
    pub one : (text : List ℕ) (a b : V) → IsText text a → IsText text b → a ≡ b

  -- the function gives the value of a text where it has one, and None where it has none
  pub record IsReadBy (read : List ℕ → Option V) : Type 0 where
    pub value : (text : List ℕ) (v : V) → IsText text v → read text ≡ Some v
    pub found : (text : List ℕ) (v : V) → IsBytes text → read text ≡ Some v → IsText text v
    pub none : (text : List ℕ) → IsBytes text → read text ≡ None → (v : V) → IsText text v → ⊥

  -- values of texts are in range
  pub record HasRange (IsInRange : V → Type 0) : Type 0 where
    pub range : (text : List ℕ) (v : V) → IsText text v → IsInRange v

  -- each value in range has its canonical text, and what reads that text gives the value again
  pub record IsPrintedBy (IsInRange : V → Type 0) (print : V → List ℕ) (read : List ℕ → Option V) : Type 0 where
    pub text : (v : V) → IsInRange v → IsText (print v) v
    pub again : (v : V) → IsInRange v → read (print v) ≡ Some v
