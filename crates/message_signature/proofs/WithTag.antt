-- The inner lists with a tag, one after the other.
use Rattle.std.proofs.Common.{◌≡◌, ℕ, ◌+◌, true, false, List, [], ◌∷◌, ◌++◌, drop, slice_get, Option, Some, None, Err, refl, sym, ap, ◌∙◌}
use Rattle.std.specs.Prelude.{is_some}
use Rattle.std.specs.Option.{option_map}
use Rattle.structured_fields.specs.declared.item.InnerList.{InnerList}
use Rattle.structured_fields.specs.declared.item.Member.{Member}
use Rattle.content_digest.proofs.Steps.{opened}
use Rattle.message_signature.specs.declared.fault.SigFault.TheVariants.{SeveralTags}
use Rattle.message_signature.specs.Verified.{tagged_list, with_tag, only_one}

-- the one that was met so far
abbrev pub held : Option (List ℕ × InnerList) → List (List ℕ × InnerList)
held None = []
held (Some one) = one ∷ []

-- how the code holds it: see gives its value
module _ {X : Type 0} (see : X → List ℕ × InnerList) (tag : List ℕ) (inputs : List (List ℕ × Member)) (i : ℕ) (label : List ℕ) (member : Member)
    (at : slice_get inputs i ≡ Some (label, member)) where
  pub passed : (found : Option X) → held (option_map see found) ++ with_tag tag (drop i inputs) ≡ with_tag tag inputs → tagged_list tag member ≡ None
      → held (option_map see found) ++ with_tag tag (drop (i + 1) inputs) ≡ with_tag tag inputs
  passed found so_far h = sym (ap (λ es. held (option_map see found) ++ with_tag tag es) (opened inputs i (label, member) at) ∙ rw h refl) ∙ so_far

  module _ (list : InnerList) (h : tagged_list tag member ≡ Some list) where
    here : with_tag tag (drop i inputs) ≡ (label, list) ∷ with_tag tag (drop (i + 1) inputs)
    here = ap (with_tag tag) (opened inputs i (label, member) at) ∙ rw h refl

    pub first : (found : Option X) → held (option_map see found) ++ with_tag tag (drop i inputs) ≡ with_tag tag inputs → is_some found ≡ false
        → (label, list) ∷ with_tag tag (drop (i + 1) inputs) ≡ with_tag tag inputs
    first None so_far none = sym here ∙ so_far
    first (Some x) so_far none = absurd cc

    pub second : (found : Option X) → held (option_map see found) ++ with_tag tag (drop i inputs) ≡ with_tag tag inputs → is_some found ≡ true
        → only_one (with_tag tag inputs) ≡ Err SeveralTags
    second (Some x) so_far some = ap only_one (sym so_far ∙ ap (λ es. see x ∷ es) here)
    second None so_far some = absurd cc
