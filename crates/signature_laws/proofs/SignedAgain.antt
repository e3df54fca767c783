-- A message that can be signed again always is: its fields, and the base of its second signature.
use Rattle.std.proofs.Common.{◌≡◌, ℕ, Bool, true, false, List, Some, refl, sym, ap, ◌∙◌}
use Rattle.std.specs.Prelude.{codes, is_some, option_map}
use Rattle.bytes_and_lists.specs.declared.message.Field.{Field}
use Rattle.bytes_and_lists.specs.declared.message.Message.{Message}
use Rattle.structured_fields.specs.declared.bare.Bare.{Bare}
use Rattle.structured_fields.specs.Named.{value_at}
use Rattle.structured_fields.proofs.Fronts.{some_is}
use Rattle.hmac_key.specs.Hmac.{hmac_sha256}
use Rattle.message_signature.specs.declared.tags.SignatureFields.{SignatureFields}
use Rattle.message_signature.specs.Components.{component, field_value}
use Rattle.message_signature.specs.Signed.{with_fields, label}
use Rattle.message_signature.proofs.SignedBase.{there_is}
use Rattle.rotation_checks.specs.RotationBase.{rotation_lines, base_with, rotation_base}
use Rattle.key_rotation.specs.SignedRotation.{rotation_input, second_lines, signed_rotation}
use Rattle.key_rotation.proofs.SecondBase.{list_of, based, signed_with}
use Rattle.signature_laws.specs.Rotation.{IsAlwaysSignedAgain}

-- other fields, and other members, leave it as it is
pub base_same : (m : Message) (fields : List Field) (base : List ℕ) (old new : SignatureFields) (params : List (List ℕ × Bare)) (body token : Bool)
    → field_value (codes "content-digest") fields ≡ field_value (codes "content-digest") m.fields
    → field_value (codes "authorization") fields ≡ field_value (codes "authorization") m.fields
    → value_at new.signatures label ≡ value_at old.signatures label → value_at new.inputs label ≡ value_at old.inputs label
    → base_with (record m { fields = fields }) base new (list_of body token params) ≡ base_with m base old (list_of body token params)
unfolding base_with rotation_lines component
base_same m fields base old new params false false d t s i = rw (s, i) refl
base_same m fields base old new params true false d t s i = rw (d, s, i) refl
base_same m fields base old new params false true d t s i = rw (t, s, i) refl
base_same m fields base old new params true true d t s i = rw (d, t, s, i) refl

pub always_signed_again : IsAlwaysSignedAgain
always_signed_again m base id secret created h =
    let text = there_is _ (based m base id created h) in
    ap is_some (signed_with m base id secret (hmac_sha256 secret text.value) created (rotation_input m id created) _ _ refl
    (ap (option_map (hmac_sha256 secret)) text.is) refl refl)

-- which fields the message has
pub signed_again_is : (m r : Message) (base id secret : List ℕ) (created : ℕ) (text : List ℕ) → rotation_base m base (rotation_input m id created) ≡ Some text
    → signed_rotation m base id secret created ≡ Some r → with_fields (second_lines (rotation_input m id created) (hmac_sha256 secret text)) m ≡ r
signed_again_is m r base id secret created text base_is is =
    some_is _ _ (sym (signed_with m base id secret (hmac_sha256 secret text) created (rotation_input m id created) _ _ refl
    (ap (option_map (hmac_sha256 secret)) base_is) refl refl) ∙ is)
