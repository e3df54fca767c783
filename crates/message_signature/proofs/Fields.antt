-- The values of fields.
use Rattle.std.proofs.Common.{◌≡◌, ℕ, ◌+◌, ◌<◌, Bool, true, false, cond, List, [], ◌∷◌, ◌++◌, length, get_or, map, take, Some, None, refl, sym, ap, ◌∙◌, append_assoc}
use Rattle.std.specs.Prelude.{filter, is_some}
use Rattle.std.specs.List.{list_any}
use Rattle.std.specs.Str.{bytes_eq}
use Rattle.std.proofs.lemmas.List.{map-append, append-nil}
use Rattle.std.proofs.lemmas.List.Elements.{filter_more}
use Rattle.bytes_and_lists.specs.declared.message.Field.{Field}
use Rattle.structured_fields.specs.Reading.{trimmed}
use Rattle.structured_fields.specs.Canonical.{further_text}
use Rattle.message_signature.specs.Components.{values_of, joined, field_value, with_next}

-- ---- whether a line has the name

pub is_some_field : (name : List ℕ) (fields : List Field) → list_any (λ f. bytes_eq f.name name) fields ≡ is_some (field_value name fields)
unfolding field_value
is_some_field name [] = refl
is_some_field name (f ∷ fields) = by (bytes_eq f.name name) refl (is_some_field name fields)
  where
    by : (r : Bool) → bytes_eq f.name name ≡ r → list_any (λ f. bytes_eq f.name name) fields ≡ is_some (joined (values_of name fields))
        → list_any (λ f. bytes_eq f.name name) (f ∷ fields) ≡ is_some (joined (values_of name (f ∷ fields)))
    by true p again = rw p refl
    by false p again = rw p again

-- ---- one line more

further_more : (vs : List (List ℕ)) (v : List ℕ)
    → further_text (44 ∷ 32 ∷ []) (λ v. v) (vs ++ v ∷ []) ≡ further_text (44 ∷ 32 ∷ []) (λ v. v) vs ++ (44 ∷ 32 ∷ v)
further_more [] v = simp append-nil
further_more (w ∷ vs) v = rw (further_more vs v) (simp append_assoc)

joined_more : (vs : List (List ℕ)) (v : List ℕ) → joined (vs ++ v ∷ []) ≡ Some (with_next (joined vs) v)
joined_more [] v = ap (λ (t : List ℕ). Some t) (append-nil v)
joined_more (w ∷ vs) v = rw (further_more vs v) (ap (λ (t : List ℕ). Some t) (sym (append_assoc w (further_text (44 ∷ 32 ∷ []) (λ v. v) vs) (44 ∷ 32 ∷ v))))

module _ (name : List ℕ) (fields : List Field) (i : ℕ) (f : Field) (at : f ≡ get_or fields i f) (lt : i < length fields) where
  values_more : values_of name (take (i + 1) fields) ≡ values_of name (take i fields) ++ map (λ f. trimmed f.value) (cond (bytes_eq f.name name) (f ∷ []) [])
  values_more =
      ap (map (λ f. trimmed f.value))
      (filter_more (λ f. bytes_eq f.name name) fields i f lt
      ∙ ap (λ (g : Field). filter (λ f. bytes_eq f.name name) (take i fields) ++ cond (bytes_eq g.name name) (g ∷ []) []) (sym at))
      ∙ map-append (λ f. trimmed f.value) (filter (λ f. bytes_eq f.name name) (take i fields)) (cond (bytes_eq f.name name) (f ∷ []) [])

  pub field_more : bytes_eq f.name name ≡ true → field_value name (take (i + 1) fields) ≡ Some (with_next (field_value name (take i fields)) (trimmed f.value))
  unfolding field_value
  field_more h = rw (values_more, h) (joined_more (values_of name (take i fields)) (trimmed f.value))

  pub field_same : bytes_eq f.name name ≡ false → field_value name (take (i + 1) fields) ≡ field_value name (take i fields)
  unfolding field_value
  field_same h = rw (values_more, h) (ap joined (append-nil (values_of name (take i fields))))

-- ---- no line

pub field_none : (name : List ℕ) → field_value name [] ≡ None
unfolding field_value
field_none name = refl
