-- What a reader answered, from the function that it follows.
use Rattle.std.proofs.Common.{◌≡◌, ℕ, List, Option, Some, Result, Ok, Err, subst}
use Rattle.std.specs.Prelude.{IfOk}
use Rattle.base64.specs.GeneralPurpose.{IsBytes}
use Rattle.structured_fields.specs.declared.fault.FieldFault.{FieldFault}
use Rattle.structured_fields.specs.Reading.{Gives}

module _ {V : Type 0} (read : List ℕ → Option V) (IsText : List ℕ → V → Type 0) where
  pub found_by : ((t : List ℕ) (v : V) → IsBytes t → read t ≡ Some v → IsText t v)
      → (t : List ℕ) (r : Result V FieldFault) → IsBytes t → Gives (λ x. x) r (read t) → IfOk r (λ v. IsText t v)
  found_by takes t (Ok v) fits given = takes t v fits given
  found_by takes t (Err e) fits given = tt

  pub only_by : ((t : List ℕ) (v : V) → IsText t v → read t ≡ Some v)
      → (t : List ℕ) (r : Result V FieldFault) → Gives (λ x. x) r (read t) → (v : V) → IsText t v → Gives (λ x. x) r (Some v)
  only_by again t r given v is = subst (λ (o : Option V). Gives (λ x. x) r o) (again t v is) given

  pub range_by : (P : V → Type 0) → ((t : List ℕ) (v : V) → IsText t v → P v)
      → (t : List ℕ) (r : Result V FieldFault) → IfOk r (λ v. IsText t v) → IfOk r P
  range_by P range t (Ok v) found = range t v found
  range_by P range t (Err e) found = tt
