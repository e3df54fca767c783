-- The laws of a kind of text, from the function that reads it.
use Rattle.std.proofs.Common.{◌≡◌, ℕ, List, Option, Some, sym, ◌∙◌}
use Rattle.base64.specs.GeneralPurpose.{IsBytes}
use Rattle.structured_fields.proofs.Fronts.{some_is}
use Rattle.field_laws.specs.Texts.{HasOneValue, IsReadBy, IsPrintedBy}

module _ {V : Type 0} (IsText : List ℕ → V → Type 0) (read : List ℕ → Option V) (again : (t : List ℕ) (v : V) → IsText t v → read t ≡ Some v) where
  pub one_value : HasOneValue IsText
  one_value = record { one = λ t a b p q. some_is a b (sym (again t a p) ∙ again t b q) }

  pub read_by : ((t : List ℕ) (v : V) → IsBytes t → read t ≡ Some v → IsText t v) → IsReadBy IsText read
  read_by takes = record { value = λ t v is. again t v is; found = λ t v fits e. takes t v fits e; none = λ t fits e v is. let some = again t v is in cc }

  pub printed_by : (IsInRange : V → Type 0) (print : V → List ℕ) → ((v : V) → IsInRange v → IsText (print v) v) → IsPrintedBy IsText IsInRange print read
  printed_by IsInRange print text = record { text = λ v range. text v range; again = λ v range. again (print v) v (text v range) }
