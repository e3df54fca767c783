-- What holds of a message that is signed.
use Rattle.std.specs.Prelude.{◌≡◌, ℕ, ◌+◌, ◌<◌, ◌≤◌, ◌^◌, true, false, List, Option, Some, Ok, IsSome, IfSome, codes}
use Rattle.std.specs.List.{list_all}
use Rattle.bytes_and_lists.specs.declared.message.Message.{Message}
use Rattle.structured_fields.specs.declared.bare.Bare.{Bare}
use Rattle.structured_fields.specs.Letters.{is_string_byte}
use Rattle.structured_fields.specs.Named.{value_at}
use Rattle.content_digest.specs.Judged.{Fits}
use Rattle.message_signature.specs.Components.{field_value}
use Rattle.message_signature.specs.Verified.{has_field, verified}
use Rattle.message_signature.specs.Marks.{latest_created, is_nonce, mark_of}
use Rattle.message_signature.specs.Signed.{has_signature, params_of, signed_under, signed_marked}

-- there is always a signed message
abbrev pub IsAlwaysSigned : Type 0
IsAlwaysSigned = (m : Message) (base : List ℕ) (params : List (List ℕ × Bare)) (secret : List ℕ) → IsSome (signed_under m base params secret)

-- what it takes that the signature of a message, made under this id and secret, at this time, with or without a nonce, and with this tag, passes
pub record CanPass (m : Message) (ring : List (List ℕ × List ℕ)) (id secret : List ℕ) (created : ℕ) (nonce : Option (List ℕ)) (tag : List ℕ) (now : ℕ) : Type 0
  where
    -- the message has no signature yet
    pub unsigned : has_signature m ≡ false
    -- a digest that is there already fits the body
    pub digest : (field : List ℕ) → field_value (codes "content-digest") m.fields ≡ Some field → Fits field m.body
    -- the one who verifies has the key
    pub key : value_at ring id ≡ Some secret
    -- the parameters can be written
    pub id_text : list_all is_string_byte id ≡ true
    pub nonce_text : IfSome nonce (λ n. list_all is_string_byte n ≡ true)
    pub tag_text : list_all is_string_byte tag ≡ true
    pub created_size : created < 10 ^ 15
    -- it is verified at most 300 seconds before or after
    pub not_early : created ≤ now + 300
    pub not_late : now ≤ created + 300

-- a message that was signed passes, and the answer is the key's id
abbrev pub SignedPasses : Type 0
SignedPasses = (m n : Message) (base : List ℕ) (ring : List (List ℕ × List ℕ)) (id secret : List ℕ) (created : ℕ) (nonce : Option (List ℕ)) (tag : List ℕ)
    (now : ℕ)
    → signed_under m base (params_of id created nonce tag) secret ≡ Some n → CanPass m ring id secret created nonce tag now
    → verified n base ring now tag ≡ Ok id

-- a message that was signed with a nonce has the mark of that nonce and moment
abbrev pub SignedIsMarked : Type 0
SignedIsMarked = (m n : Message) (base id secret : List ℕ) (created : ℕ) (nonce tag : List ℕ)
    → signed_marked m base id secret created nonce tag ≡ Some n → has_field (codes "signature-input") m ≡ false
    → list_all is_string_byte id ≡ true → is_nonce nonce ≡ true → list_all is_string_byte tag ≡ true → created ≤ latest_created
    → mark_of n tag ≡ Some (record { nonce = nonce; created = created })
