-- The values of fields when field lines are added, and texts that have nothing to be trimmed.
use Rattle.std.proofs.Common.{◌≡◌, ℕ, true, false, not, List, [], ◌∷◌, ◌++◌, map, reverse, Some, None, refl, ap, ◌∙◌}
use Rattle.std.specs.Str.{bytes_eq}
use Rattle.std.specs.List.{filter}
use Rattle.std.proofs.lemmas.List.{append-nil, map-append, reverse-append, reverse-reverse}
use Rattle.std.proofs.lemmas.List.Elements.{filter-append}
use Rattle.bytes_and_lists.specs.declared.message.Field.{Field}
use Rattle.structured_fields.specs.Letters.{is_ows}
use Rattle.structured_fields.specs.Reading.{behind, trimmed}
use Rattle.structured_fields.proofs.Fronts.{stops, behind_again}
use Rattle.content_digest.proofs.Ends.{EndsIn}
use Rattle.message_signature.specs.Components.{values_of, joined, field_value}

-- ---- more lines

module _ (name : List ℕ) (fields more : List Field) where
  values_more : values_of name (fields ++ more) ≡ values_of name fields ++ values_of name more
  values_more = ap (map (λ (f : Field). trimmed f.value)) (filter-append (λ (f : Field). bytes_eq f.name name) fields more)
      ∙ map-append (λ (f : Field). trimmed f.value) (filter (λ (f : Field). bytes_eq f.name name) fields) _

  -- under other names
  pub value_beside : values_of name more ≡ [] → field_value name (fields ++ more) ≡ field_value name fields
  unfolding field_value
  value_beside none = ap joined (values_more ∙ rw none (append-nil (values_of name fields)))

  -- one of them is the first under its name
  pub value_added : (value : List ℕ) → values_of name more ≡ value ∷ [] → field_value name fields ≡ None → field_value name (fields ++ more) ≡ Some value
  unfolding field_value
  value_added value one none = ap joined (values_more ∙ ap (λ (vs : List (List ℕ)). values_of name fields ++ vs) one) ∙ by (values_of name fields) none
    where
      by : (vs : List (List ℕ)) → joined vs ≡ None → joined (vs ++ value ∷ []) ≡ Some value
      by [] e = ap (λ (v : List ℕ). Some v) (append-nil value)
      by (v ∷ vs) e = absurd cc

-- ---- nothing to be trimmed

pub trimmed_same : (text : List ℕ) (last : ℕ) → EndsIn last text → stops is_ows text ≡ true → is_ows last ≡ false → trimmed text ≡ text
trimmed_same text last e first h =
    let turned : reverse text ≡ last ∷ reverse e.front = ap reverse e.is ∙ reverse-append e.front (last ∷ []) in
    let back : behind is_ows (reverse text) ≡ reverse text = behind_again is_ows [] (reverse text) refl (ap (stops is_ows) turned ∙ ap not h) in
    ap (λ (t : List ℕ). reverse (behind is_ows (reverse t))) (behind_again is_ows [] text refl first) ∙ ap reverse back ∙ reverse-reverse text
