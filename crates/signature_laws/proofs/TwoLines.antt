-- The two fields with a line of each signature: each is a dictionary of two members.
use Rattle.std.proofs.Common.{◌≡◌, ℕ, List, [], ◌∷◌, ◌++◌, map, Some, None, refl, ap, ◌∙◌}
use Rattle.std.specs.Prelude.{codes, filter}
use Rattle.std.specs.Str.{bytes_eq}
use Rattle.std.proofs.lemmas.List.{append-nil, map-append}
use Rattle.std.proofs.lemmas.List.Elements.{filter-append}
use Rattle.bytes_and_lists.specs.declared.message.Field.{Field}
use Rattle.bytes_and_lists.specs.declared.message.Message.{Message}
use Rattle.structured_fields.specs.declared.bare.Bare.TheVariants.{Binary}
use Rattle.structured_fields.specs.declared.item.InnerList.{InnerList}
use Rattle.structured_fields.specs.declared.item.Member.{Member}
use Rattle.structured_fields.specs.declared.item.Member.TheVariants.{Item as Single, Inner}
use Rattle.structured_fields.specs.Reading.{dictionary_of, trimmed}
use Rattle.structured_fields.specs.Canonical.{separated_text, entry_text, dictionary_text, IsInnerInRange}
use Rattle.structured_fields.proofs.Whole.{dictionary_of_again}
use Rattle.structured_fields.proofs.Written.{dictionary_text_is}
use Rattle.content_digest.proofs.Ends.{binary_ends}
use Rattle.hmac_key.specs.Hmac.{hmac_sha256}
use Rattle.message_signature.specs.Components.{values_of, joined, field_value}
use Rattle.message_signature.specs.Signed.{under_label, label}
use Rattle.message_signature.proofs.Appended.{trimmed_same}
use Rattle.message_signature.proofs.SignedFields.{hmac_range}
use Rattle.rotation_checks.specs.SecondSignature.{second_tag}
use Rattle.key_rotation.specs.SignedRotation.{second_label, rotation_input, covered_again}
use Rattle.signature_laws.proofs.FieldsAgain.{ends_more, ends_nil, inner_ends}

-- ---- two lines

values_more : (name : List ℕ) (fields more : List Field) → values_of name (fields ++ more) ≡ values_of name fields ++ values_of name more
values_more name fields more =
    ap (map (λ (f : Field). trimmed f.value)) (filter-append (λ (f : Field). bytes_eq f.name name) fields more)
    ∙ map-append (λ (f : Field). trimmed f.value) (filter (λ (f : Field). bytes_eq f.name name) fields) _

-- two lines, of which no other has the name
pub value_of_two : (name : List ℕ) (fields one two : List Field) (a b : List ℕ) → values_of name one ≡ a ∷ [] → values_of name two ≡ b ∷ []
    → field_value name fields ≡ None
    → field_value name ((fields ++ one) ++ two) ≡ Some (separated_text (44 ∷ 32 ∷ []) (λ v. v) (a ∷ b ∷ []))
unfolding field_value
value_of_two name fields one two a b p q none =
    ap joined (values_more name (fields ++ one) two ∙ ap (λ (vs : List (List ℕ)). vs ++ values_of name two) (values_more name fields one))
    ∙ rw (p, q) (by (values_of name fields) none)
  where
    by : (vs : List (List ℕ)) → joined vs ≡ None → joined ((vs ++ a ∷ []) ++ b ∷ []) ≡ Some (separated_text (44 ∷ 32 ∷ []) (λ v. v) (a ∷ b ∷ []))
    by [] e = refl
    by (v ∷ vs) e = absurd cc

-- two dictionaries of one member, joined, are the text of one of both
pub joined_text : (a b : List ℕ × Member)
    → separated_text (44 ∷ 32 ∷ []) (λ v. v) (dictionary_text (a ∷ []) ∷ dictionary_text (b ∷ []) ∷ []) ≡ dictionary_text (a ∷ b ∷ [])
joined_text a b =
    ap (λ (t : List ℕ). t ++ (44 ∷ 32 ∷ ((entry_text b ++ []) ++ []))) (append-nil (entry_text a))
    ∙ ap (λ (t : List ℕ). entry_text a ++ (44 ∷ 32 ∷ t)) (append-nil (entry_text b ++ []))

-- ---- nothing to be trimmed

pub input_trimmed : (m : Message) (id : List ℕ) (created : ℕ)
    → trimmed (dictionary_text (under_label second_label (Inner (rotation_input m id created))))
    ≡ dictionary_text (under_label second_label (Inner (rotation_input m id created)))
input_trimmed m id created =
    trimmed_same (dictionary_text (under_label second_label (Inner (rotation_input m id created)))) 34
    (ends_nil (ends_more (codes "sig2=") (inner_ends (covered_again m) id created None second_tag))) refl refl

-- the bytes of a signature, as a member
abbrev pub bytes_member : List ℕ → Member
bytes_member bytes = Single (record { bare = Binary bytes; params = [] })

pub signature_trimmed : (bytes : List ℕ)
    → trimmed (dictionary_text (under_label second_label (bytes_member bytes))) ≡ dictionary_text (under_label second_label (bytes_member bytes))
signature_trimmed bytes = trimmed_same (dictionary_text (under_label second_label (bytes_member bytes))) 58
    (ends_nil (ends_more (codes "sig2=") (ends_nil (binary_ends bytes)))) refl refl

-- ---- read again

abbrev pub inputs_of : InnerList → InnerList → List (List ℕ × Member)
inputs_of first second = (label, Inner first) ∷ (second_label, Inner second) ∷ []

pub inputs_again : (first second : InnerList) → IsInnerInRange first → IsInnerInRange second
    → dictionary_of (dictionary_text (inputs_of first second)) ≡ Some (inputs_of first second)
inputs_again first second a b =
    let d = inputs_of first second in
    dictionary_of_again (dictionary_text d) d (dictionary_text_is d (record { entries = ((refl, a), ((refl, b), tt)); distinct = (refl, (refl, tt)) }))

abbrev pub signatures_of : List ℕ → List ℕ → List (List ℕ × Member)
signatures_of first second = (label, bytes_member first) ∷ (second_label, bytes_member second) ∷ []

pub signatures_again : (key text key' text' : List ℕ)
    → dictionary_of (dictionary_text (signatures_of (hmac_sha256 key text) (hmac_sha256 key' text')))
    ≡ Some (signatures_of (hmac_sha256 key text) (hmac_sha256 key' text'))
signatures_again key text key' text' =
    let d = signatures_of (hmac_sha256 key text) (hmac_sha256 key' text') in
    dictionary_of_again (dictionary_text d) d (dictionary_text_is d (record {
      entries = (
        (refl, record { bare = hmac_range key text; params = tt; distinct = tt }),
        ((refl, record { bare = hmac_range key' text'; params = tt; distinct = tt }), tt),
      );
      distinct = (refl, (refl, tt));
    }))
