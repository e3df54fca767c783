-- A message with the signature that is made for it (RFC 9421, section 3.1; what it covers is RFC 9635, section 7.3.1).
use Rattle.std.specs.Prelude.{ℕ, Bool, not, ◌&&◌, ◌||◌, if◌then◌else◌, List, [], ◌∷◌, ◌++◌, map, take, Option, Some, None, pos, codes}
use Rattle.bytes_and_lists.specs.declared.message.Field.{Field}
use Rattle.bytes_and_lists.specs.declared.message.Message.{Message}
use Rattle.structured_fields.specs.declared.bare.Bare.{Bare}
use Rattle.structured_fields.specs.declared.bare.Bare.TheVariants.{Integer, Str, Binary}
use Rattle.structured_fields.specs.declared.item.Item.{Item}
use Rattle.structured_fields.specs.declared.item.InnerList.{InnerList}
use Rattle.structured_fields.specs.declared.item.Member.{Member}
use Rattle.structured_fields.specs.declared.item.Member.TheVariants.{Item as Single, Inner}
use Rattle.structured_fields.specs.Reading.{◌>>=◌}
use Rattle.structured_fields.specs.Canonical.{dictionary_text}
use Rattle.content_digest.specs.Digest.{digest_text}
use Rattle.hmac_key.specs.Hmac.{hmac_sha256}
use Rattle.message_signature.specs.Base.{signature_base}
use Rattle.message_signature.specs.Verified.{has_body, has_field}

-- one of the two fields of a signature is there
abbrev pub has_signature : Message → Bool
has_signature m = has_field (codes "signature-input") m || has_field (codes "signature") m

abbrev pub field : List ℕ → List ℕ → Field
field name value = record { name = name; value = value }

-- with more fields behind its own
abbrev pub with_fields : List Field → Message → Message
with_fields more m = record m { fields = m.fields ++ more }

-- with the digest of its body, where there is a body and no digest yet
abbrev pub with_digest : Message → Message
with_digest m =
    if has_body m && not (has_field (codes "content-digest") m)
    then with_fields (field (codes "content-digest") (digest_text m.body) ∷ []) m
    else m

-- what is covered: the method, the target URI, the digest of a body, and an access token that is presented
abbrev pub covered : Message → List (List ℕ)
covered m =
    codes "@method" ∷ codes "@target-uri" ∷ ((if has_body m then codes "content-digest" ∷ [] else [])
    ++ (if has_field (codes "authorization") m then codes "authorization" ∷ [] else []))

abbrev pub component_item : List ℕ → Item
component_item name = record { bare = Str name; params = [] }

-- when it was made, under which key, with which nonce, and for what (section 2.3)
abbrev pub params_of : List ℕ → ℕ → Option (List ℕ) → List ℕ → List (List ℕ × Bare)
params_of id created nonce tag = (codes "created", Integer (pos created)) ∷ (codes "keyid", Str id) ∷ nonce_before ((codes "tag", Str tag) ∷ []) nonce
  where
    nonce_before : List (List ℕ × Bare) → Option (List ℕ) → List (List ℕ × Bare)
    nonce_before params None = params
    nonce_before params (Some nonce) = (codes "nonce", Str nonce) ∷ params

-- the covered components, with the parameters
abbrev pub signature_input : Message → List (List ℕ × Bare) → InnerList
signature_input m params = record { items = map component_item (covered m); params = params }

-- one member, under its label
abbrev pub under_label : List ℕ → Member → List (List ℕ × Member)
under_label label member = (label, member) ∷ []

-- the label of the one signature
abbrev pub label : List ℕ
label = codes "sig1"

-- the two field lines of a signature under a label
abbrev pub lines_under : List ℕ → InnerList → List ℕ → List Field
lines_under name list bytes =
    field (codes "signature-input") (dictionary_text (under_label name (Inner list)))
    ∷ field (codes "signature") (dictionary_text (under_label name (Single (record { bare = Binary bytes; params = [] })))) ∷ []

abbrev pub signature_lines : InnerList → List ℕ → List Field
signature_lines list bytes = lines_under label list bytes

-- The message with the signature that has these parameters. Its base is always there (`laws`).
unfoldable pub signed_under : Message → List ℕ → List (List ℕ × Bare) → List ℕ → Option Message
signed_under m base params secret = do
  text ← signature_base (with_digest m) base (signature_input (with_digest m) params)
  Some (with_fields (signature_lines (signature_input (with_digest m) params) (hmac_sha256 secret text)) (with_digest m))

-- The signed message.
abbrev pub signed : Message → List ℕ → List ℕ → List ℕ → ℕ → List ℕ → Option Message
signed m base id secret created tag = signed_under m base (params_of id created None tag) secret

-- The signed message whose signature has a nonce.
abbrev pub signed_marked : Message → List ℕ → List ℕ → List ℕ → ℕ → List ℕ → List ℕ → Option Message
signed_marked m base id secret created nonce tag = signed_under m base (params_of id created (Some nonce) tag) secret

-- ---- on the way to it

-- with so many of its fields
abbrev pub cut : ℕ → Message → Message
cut n m = record m { fields = take n m.fields }
