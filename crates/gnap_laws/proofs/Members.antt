-- What a list with a first element contains.
use Rattle.std.proofs.Common.{◌≡◌, ◌⊎◌, inl, inr, List, [], ◌∷◌, arith}
use Rattle.std.specs.Prelude.{Contains}
use Rattle.std.proofs.lemmas.List.Elements.{Contains-append_cases, Contains-push_cases}

pub contains_none : {A B : Type 0} (x : A) → Contains [] x → B
contains_none x h = absurd (let k = h.1 in omega arith)

pub contains_cases : {A : Type 0} (x y : A) (xs : List A) → Contains (x ∷ xs) y → (x ≡ y) ⊎ Contains xs y
contains_cases x y xs h = elim (Contains-append_cases (x ∷ []) xs y h) [
  | inl here ↦ inl (first (Contains-push_cases [] x y here))
  | inr there ↦ inr there
]
  where
    first : Contains [] y ⊎ (x ≡ y) → x ≡ y
    first (inl none) = contains_none y none
    first (inr same) = same
