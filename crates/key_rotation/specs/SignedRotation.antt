-- A signed message with a second signature, by a new key and over the first (RFC 9635, section 6.1.1).
use Rattle.std.specs.Prelude.{ℕ, ◌==◌, Bool, true, false, not, ◌&&◌, ◌||◌, List, [], ◌∷◌, ◌++◌, length, map, Option, Some, None, is_some, Result, Ok, Err, codes}
use Rattle.bytes_and_lists.specs.declared.message.Field.{Field}
use Rattle.bytes_and_lists.specs.declared.message.Message.{Message}
use Rattle.structured_fields.specs.declared.bare.Bare.TheVariants.{Str}
use Rattle.structured_fields.specs.declared.item.Item.{Item}
use Rattle.structured_fields.specs.declared.item.InnerList.{InnerList}
use Rattle.structured_fields.specs.declared.item.Member.{Member}
use Rattle.structured_fields.specs.declared.item.Member.TheVariants.{Item as Single, Inner}
use Rattle.structured_fields.specs.Named.{value_at}
use Rattle.structured_fields.specs.Reading.{◌>>=◌}
use Rattle.hmac_key.specs.Hmac.{hmac_sha256}
use Rattle.message_signature.specs.declared.fault.SigFault.{SigFault}
use Rattle.message_signature.specs.declared.tags.SignatureFields.{SignatureFields}
use Rattle.message_signature.specs.Verified.{has_body, has_field, signature_fields}
use Rattle.message_signature.specs.Signed.{with_fields, covered, component_item, params_of, lines_under, label}
use Rattle.rotation_checks.specs.RotationBase.{rotation_base}
use Rattle.rotation_checks.specs.SecondSignature.{second_tag}

-- ---- what can be signed again

abbrev pub is_inner : Option Member → Bool
is_inner (Some (Inner list)) = true
is_inner (Some (Single item)) = false
is_inner None = false

-- each field has one member, which is under the label of the one signature
abbrev pub has_only_first : SignatureFields → Bool
has_only_first fields =
    (length fields.inputs == 1) && is_inner (value_at fields.inputs label) && (length fields.signatures == 1) && is_some (value_at fields.signatures label)

abbrev pub are_first_alone : Result SignatureFields SigFault → Bool
are_first_alone (Ok fields) = has_only_first fields
are_first_alone (Err fault) = false

-- The two fields have the one signature `sig1`, and a body has its digest.
abbrev pub is_signed : Message → Bool
is_signed m = are_first_alone (signature_fields m) && (not (has_body m) || has_field (codes "content-digest") m)

-- ---- the second signature

abbrev pub second_label : List ℕ
second_label = codes "sig2"

-- the member of a field that is under the label of the first signature
abbrev pub member_item : List ℕ → Item
member_item name = record { bare = Str name; params = (codes "key", Str label) ∷ [] }

-- what any signature covers, and the two members of the first signature
abbrev pub covered_again : Message → List Item
covered_again m = map component_item (covered m) ++ member_item (codes "signature") ∷ member_item (codes "signature-input") ∷ []

abbrev pub rotation_input : Message → List ℕ → ℕ → InnerList
rotation_input m id created = record { items = covered_again m; params = params_of id created None second_tag }

-- the two field lines of the second signature
abbrev pub second_lines : InnerList → List ℕ → List Field
second_lines list bytes = lines_under second_label list bytes

-- The message with both signatures. Its base is there where the message is signed (`laws`).
unfoldable pub signed_rotation : Message → List ℕ → List ℕ → List ℕ → ℕ → Option Message
signed_rotation m base id secret created = do
  text ← rotation_base m base (rotation_input m id created)
  Some (with_fields (second_lines (rotation_input m id created) (hmac_sha256 secret text)) m)
