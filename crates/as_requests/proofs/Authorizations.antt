-- The values of the `Authorization` fields, one after the other.
use Rattle.std.proofs.Common.{◌≡◌, ◌∙◌, ℕ, suc, ◌+◌, ◌<◌, true, false, List, [], ◌∷◌, length, drop, get_or, Option, Some, None, refl, sym, ap, add-one}
use Rattle.std.specs.Prelude.{is_some, codes}
use Rattle.std.specs.Option.{option_map}
use Rattle.std.specs.Str.{bytes_eq}
use Rattle.std.proofs.Math.Seq.{drop-cons}
use Rattle.bytes_and_lists.specs.declared.message.Field.{Field}
use Rattle.as_requests.specs.Presented.{authorizations, presented_in}

-- the one that was met so far, before others
abbrev pub held : Option (List ℕ) → List (List ℕ) → List (List ℕ)
held None values = values
held (Some value) values = value ∷ values

-- how the code holds it: see gives its value
module _ {X : Type 0} (see : X → List ℕ) (fields : List Field) (i : ℕ) (field : Field) (within : i < length fields) (is : field ≡ get_or fields i field)
    (found : Option X)
    (so_far : held (option_map see found) (authorizations (drop i fields)) ≡ authorizations fields) where
  opened : drop i fields ≡ field ∷ drop (i + 1) fields
  opened = drop-cons fields i field within ∙ ap (λ f. f ∷ drop (suc i) fields) (sym is) ∙ ap (λ j. field ∷ drop j fields) (sym (add-one i))

  pub passed : bytes_eq field.name (codes "authorization") ≡ false → held (option_map see found) (authorizations (drop (i + 1) fields)) ≡ authorizations fields
  passed other = sym (ap (λ fs. held (option_map see found) (authorizations fs)) opened ∙ rw other refl) ∙ so_far

  module _ (named : bytes_eq field.name (codes "authorization") ≡ true) where
    here : held (option_map see found) (field.value ∷ authorizations (drop (i + 1) fields)) ≡ authorizations fields
    here = sym (ap (λ fs. held (option_map see found) (authorizations fs)) opened ∙ rw named refl) ∙ so_far

    pub first : is_some found ≡ false → field.value ∷ authorizations (drop (i + 1) fields) ≡ authorizations fields
    first none = of found here none
      where
        of : (o : Option X) → held (option_map see o) (field.value ∷ authorizations (drop (i + 1) fields)) ≡ authorizations fields → is_some o ≡ false
            → field.value ∷ authorizations (drop (i + 1) fields) ≡ authorizations fields
        of None h none = h
        of (Some x) h none = absurd cc

    pub second : is_some found ≡ true → presented_in (authorizations fields) ≡ []
    second some = of found here some
      where
        of : (o : Option X) → held (option_map see o) (field.value ∷ authorizations (drop (i + 1) fields)) ≡ authorizations fields → is_some o ≡ true
            → presented_in (authorizations fields) ≡ []
        of None h some = absurd cc
        of (Some x) h some = sym (ap presented_in h)
