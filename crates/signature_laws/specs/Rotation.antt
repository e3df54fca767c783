-- What holds of a message with two signatures, and of one that is signed by both.
use Rattle.std.specs.Prelude.{◌≡◌, ℕ, ◌+◌, ◌<◌, ◌≤◌, ◌^◌, ◌⊎◌, true, false, List, [], ◌∷◌, ◌++◌, Option, Some, Ok, Err, IsSome, IfSome, codes}
use Rattle.std.specs.List.{list_all, AllByRecursion}
use Rattle.bytes_and_lists.specs.declared.message.Message.{Message}
use Rattle.structured_fields.specs.declared.bare.Bare.TheVariants.{Str}
use Rattle.structured_fields.specs.declared.item.InnerList.{InnerList}
use Rattle.structured_fields.specs.declared.item.Member.{Member}
use Rattle.structured_fields.specs.Canonical.{item_text, member_text}
use Rattle.structured_fields.specs.Letters.{is_string_byte}
use Rattle.structured_fields.specs.Named.{value_at}
use Rattle.message_signature.specs.declared.fault.SigFault.{SigFault}
use Rattle.message_signature.specs.Base.{signature_base}
use Rattle.message_signature.specs.Verified.{Signature, tagged, verified}
use Rattle.message_signature.specs.Signed.{has_signature, params_of, signed_under}
use Rattle.rotation_checks.specs.declared.fault.RotationFault.TheVariants.{First, Second, NotChained}
use Rattle.rotation_checks.specs.declared.verifying.RotatedKeys.{RotatedKeys}
use Rattle.rotation_checks.specs.RotationBase.{members_of, rotation_base}
use Rattle.rotation_checks.specs.SecondSignature.{first_tag, second_tag, verified_again, is_chained}
use Rattle.rotation_checks.specs.Rotated.{rotated_keys}
use Rattle.key_rotation.specs.SignedRotation.{is_signed, signed_rotation}
use Rattle.signature_laws.specs.Signing.{CanPass}

-- where no covered component has parameters, the base is that of any signature
abbrev pub PlainBaseIsSame : Type 0
PlainBaseIsSame = (m : Message) (base : List ℕ) (list : InnerList) → AllByRecursion (λ item. item.params ≡ []) list.items
    → rotation_base m base list ≡ signature_base m base list

-- the line of a field's member under a label, as `"signature";key="sig1": :c2lnbmVk:`
abbrev pub member_line : List ℕ → List ℕ → Member → List ℕ
member_line name label member = item_text (record { bare = Str name; params = (codes "key", Str label) ∷ [] })
    ++ (codes ": " ++ (member_text member ++ 10 ∷ []))

-- whole lines
abbrev pub AreLines : List ℕ → Type 0
AreLines text = (text ≡ []) ⊎ ((front : List ℕ) × (text ≡ front ++ 10 ∷ []))

-- the field has a member under the label, whose line is one of the text's
pub record HoldsMember (m : Message) (name label text : List ℕ) : Type 0 where
  pub member : Member
  pub is : value_at (members_of m name) label ≡ Some member
  pub before : List ℕ
  pub after : List ℕ
  pub lines : AreLines before
  pub split : text ≡ before ++ (member_line name label member ++ after)

-- where a list covers the signature with this label, the text that is signed holds that signature's bytes and its own list
abbrev pub CoveredIsHeld : Type 0
CoveredIsHeld = (m : Message) (base : List ℕ) (list : InnerList) (label text : List ℕ) → is_chained label list ≡ true → rotation_base m base list ≡ Some text
    → HoldsMember m (codes "signature") label text × HoldsMember m (codes "signature-input") label text

-- the first signature is the old key's, the second the new key's, and the second covers the first
pub record AreKeysOf (m : Message) (base : List ℕ) (ring : List (List ℕ × List ℕ)) (now : ℕ) (keys : RotatedKeys) : Type 0 where
  pub old : verified m base ring now first_tag ≡ Ok keys.old
  pub new : verified_again m base ring now ≡ Ok keys.new
  pub first : Signature
  pub first_is : tagged m first_tag ≡ Ok first
  pub second : Signature
  pub second_is : tagged m second_tag ≡ Ok second
  pub covers : is_chained first.label second.list ≡ true

abbrev pub RotatedIsByBoth : Type 0
RotatedIsByBoth = (m : Message) (base : List ℕ) (ring : List (List ℕ × List ℕ)) (now : ℕ) (keys : RotatedKeys)
    → rotated_keys m base ring now ≡ Ok keys → AreKeysOf m base ring now keys

abbrev pub ByBothIsRotated : Type 0
ByBothIsRotated = (m : Message) (base : List ℕ) (ring : List (List ℕ × List ℕ)) (now : ℕ) (keys : RotatedKeys)
    → AreKeysOf m base ring now keys → rotated_keys m base ring now ≡ Ok keys

-- a fault of the first signature is the answer
abbrev pub FirstIsTold : Type 0
FirstIsTold = (m : Message) (base : List ℕ) (ring : List (List ℕ × List ℕ)) (now : ℕ) (fault : SigFault)
    → verified m base ring now first_tag ≡ Err fault → rotated_keys m base ring now ≡ Err (First fault)

-- a fault of the second is, where the first has none
abbrev pub SecondIsTold : Type 0
SecondIsTold = (m : Message) (base : List ℕ) (ring : List (List ℕ × List ℕ)) (now : ℕ) (old : List ℕ) (fault : SigFault)
    → verified m base ring now first_tag ≡ Ok old → verified_again m base ring now ≡ Err fault → rotated_keys m base ring now ≡ Err (Second fault)

-- and where neither has one, that the second doesn't cover the first
abbrev pub NotChainedIsTold : Type 0
NotChainedIsTold = (m : Message) (base : List ℕ) (ring : List (List ℕ × List ℕ)) (now : ℕ) (old new : List ℕ) (first second : Signature)
    → verified m base ring now first_tag ≡ Ok old → verified_again m base ring now ≡ Ok new → tagged m first_tag ≡ Ok first → tagged m second_tag ≡ Ok second
    → is_chained first.label second.list ≡ false → rotated_keys m base ring now ≡ Err NotChained

-- a message that was signed, with or without a nonce, can be signed again
abbrev pub SignedIsSigned : Type 0
SignedIsSigned = (m n : Message) (base id secret : List ℕ) (created : ℕ) (nonce : Option (List ℕ))
    → signed_under m base (params_of id created nonce first_tag) secret ≡ Some n
    → has_signature m ≡ false → created < 10 ^ 15 → list_all is_string_byte id ≡ true → IfSome nonce (λ n. list_all is_string_byte n ≡ true)
    → is_signed n ≡ true

-- a message that can be signed again always is
abbrev pub IsAlwaysSignedAgain : Type 0
IsAlwaysSignedAgain = (m : Message) (base id secret : List ℕ) (created : ℕ) → is_signed m ≡ true → IsSome (signed_rotation m base id secret created)

-- what it takes that the second signature passes, made under this id and secret at this time
pub record CanPassAgain (ring : List (List ℕ × List ℕ)) (id secret : List ℕ) (created now : ℕ) : Type 0 where
  pub key : value_at ring id ≡ Some secret
  pub id_text : list_all is_string_byte id ≡ true
  pub created_size : created < 10 ^ 15
  pub not_early : created ≤ now + 300
  pub not_late : now ≤ created + 300

-- a message that was signed, and signed again, gives both keys
abbrev pub BothPass : Type 0
BothPass = (m n r : Message) (base : List ℕ) (ring : List (List ℕ × List ℕ)) (old old_secret : List ℕ) (created : ℕ) (nonce : Option (List ℕ))
    (new new_secret : List ℕ) (moment now : ℕ)
    → signed_under m base (params_of old created nonce first_tag) old_secret ≡ Some n → CanPass m ring old old_secret created nonce first_tag now
    → signed_rotation n base new new_secret moment ≡ Some r → CanPassAgain ring new new_secret moment now
    → rotated_keys r base ring now ≡ Ok (record { old = old; new = new })
