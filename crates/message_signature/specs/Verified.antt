-- What the verifying of a message's signature answers (RFC 9421, section 3.2, with this project's limits): the id of the key, or the first fault.
use Rattle.std.specs.Prelude.{ℕ, ◌+◌, nat_le, Bool, true, false, not, ◌&&◌, ◌||◌, if◌then◌else◌, List, [], ◌∷◌, Option, Some, None, is_some, Result, Ok, Err, ℤ, pos, negsuc, codes}
use Rattle.std.specs.Str.{bytes_eq}
use Rattle.bytes_and_lists.specs.declared.message.Message.{Message}
use Rattle.structured_fields.specs.declared.bare.Bare.{Bare}
use Rattle.structured_fields.specs.declared.bare.Bare.TheVariants.{Integer, Decimal, Str, Token, Binary, Boolean, Date, Display}
use Rattle.structured_fields.specs.declared.item.InnerList.{InnerList}
use Rattle.structured_fields.specs.declared.item.Member.{Member}
use Rattle.structured_fields.specs.declared.item.Member.TheVariants.{Item as Single, Inner}
use Rattle.structured_fields.specs.Named.{value_at}
use Rattle.structured_fields.specs.Reading.{dictionary_of}
use Rattle.structured_fields.specs.Strings.{is_any_string, are_strings, is_string, holds_string}
use Rattle.content_digest.specs.declared.fault.DigestFault.{DigestFault}
use Rattle.content_digest.specs.Digest.{sequence_of}
use Rattle.content_digest.specs.Judged.{checked}
use Rattle.hmac_key.specs.Hmac.{hmac_sha256}
use Rattle.message_signature.specs.declared.fault.SigFault.{SigFault}
use Rattle.message_signature.specs.declared.fault.SigFault.TheVariants.{NoField, NotAField, NoTag, SeveralTags, Malformed, Unsupported, Uncovered, Created, Expired, Alg, UnknownKey, Differs, Digest}
use Rattle.message_signature.specs.declared.tags.SignatureFields.{SignatureFields}
use Rattle.message_signature.specs.Components.{field_value}
use Rattle.message_signature.specs.Base.{is_named, signature_base}
use Rattle.message_signature.specs.Faults.{◌>>=◌, need, must}

-- ---- the one signature with the tag

-- the inner list of a member, where it has this tag
abbrev pub tagged_list : List ℕ → Member → Option InnerList
tagged_list tag (Inner list) = if holds_string tag (value_at list.params (codes "tag")) then Some list else None
tagged_list tag (Single item) = None

-- the inner lists with this tag, with their labels
abbrev pub with_tag : List ℕ → List (List ℕ × Member) → List (List ℕ × InnerList)
with_tag tag [] = []
with_tag tag (e ∷ es) = put e.0 (tagged_list tag e.1) (with_tag tag es)
  where
    put : List ℕ → Option InnerList → List (List ℕ × InnerList) → List (List ℕ × InnerList)
    put label (Some list) others = (label, list) ∷ others
    put label None others = others

abbrev pub only_one : {A : Type 0} → List A → Result A SigFault
only_one [] = Err NoTag
only_one (x ∷ []) = Ok x
only_one (x ∷ y ∷ xs) = Err SeveralTags

-- ---- its form

-- the bytes of a signature under a label
abbrev pub signature_under : List ℕ → List (List ℕ × Member) → Option (List ℕ)
signature_under label signatures = bytes_of (value_at signatures label)
  where
    bytes_of : Option Member → Option (List ℕ)
    bytes_of (Some member) = sequence_of member
    bytes_of None = None

-- the number of an Integer
abbrev pub integer_in : Bare → Option ℤ
integer_in (Integer n) = Some n
integer_in (Decimal n) = None
integer_in (Str s) = None
integer_in (Token s) = None
integer_in (Binary b) = None
integer_in (Boolean b) = None
integer_in (Date n) = None
integer_in (Display s) = None

abbrev pub is_integer : Bare → Bool
is_integer v = is_some (integer_in v)

-- the parameter isn't there, or passes
abbrev pub absent_or : (Bare → Bool) → Option Bare → Bool
absent_or test None = true
absent_or test (Some v) = test v

-- Strings cover, and the parameters have their types (section 2.3)
abbrev pub is_well_formed : InnerList → Bool
is_well_formed list =
    are_strings list.items
    && absent_or is_integer (value_at list.params (codes "created")) && absent_or is_integer (value_at list.params (codes "expires"))
    && absent_or is_any_string (value_at list.params (codes "keyid")) && absent_or is_any_string (value_at list.params (codes "alg"))

-- ---- what it covers

abbrev pub has_body : Message → Bool
has_body m = not_empty m.body
  where
    not_empty : List ℕ → Bool
    not_empty [] = false
    not_empty (byte ∷ bytes) = true

abbrev pub has_field : List ℕ → Message → Bool
has_field name m = is_some (field_value name m.fields)

-- The method and the target URI are covered, the digest of a body, and an access token that is presented (RFC 9635, section 7.3.1).
abbrev pub covers_enough : Message → InnerList → Bool
covers_enough m list =
    is_named (codes "@method") list.items && is_named (codes "@target-uri") list.items
    && (not (has_body m) || is_named (codes "content-digest") list.items)
    && (not (has_field (codes "authorization") m) || is_named (codes "authorization") list.items)

-- ---- its time, in seconds

-- `created` is there, and at most 300 from now
abbrev pub is_in_window : ℕ → Option Bare → Bool
is_in_window now (Some (Integer (pos created))) = nat_le created (now + 300) && nat_le now (created + 300)
is_in_window now (Some (Integer (negsuc before))) = nat_le (now + (before + 1)) 300
is_in_window now _ = false

-- now isn't past `expires`, where that is there
abbrev pub is_not_expired : ℕ → Option Bare → Bool
is_not_expired now (Some (Integer (pos expires))) = nat_le now expires
is_not_expired now (Some (Integer (negsuc before))) = false
is_not_expired now _ = true

-- ---- its key, and the digest of the body

-- the id and the secret, where the ring has the id
abbrev pub key_in : List (List ℕ × List ℕ) → Option Bare → Option (List ℕ × List ℕ)
key_in ring (Some (Str id)) = with_id (value_at ring id)
  where
    with_id : Option (List ℕ) → Option (List ℕ × List ℕ)
    with_id (Some secret) = Some (id, secret)
    with_id None = None
key_in ring _ = None

-- A Content-Digest field that is there passes, and where there is a body it is there.
abbrev pub has_right_digest : Message → Bool
has_right_digest m = passes (field_value (codes "content-digest") m.fields)
  where
    fits : Result (Unit {0}) DigestFault → Bool
    fits (Ok u) = true
    fits (Err fault) = false

    passes : Option (List ℕ) → Bool
    passes None = not (has_body m)
    passes (Some field) = fits (checked field m.body)

-- ---- the checks, in their order

-- a signature of a message: its label, its covered components with its parameters, and its bytes
pub record Signature : Type 0 where
  pub label : List ℕ
  pub list : InnerList
  pub bytes : List ℕ

-- the fields `Signature-Input` and `Signature` (sections 4.1 and 4.2)
abbrev pub signature_fields : Message → Result SignatureFields SigFault
signature_fields m = do
  input ← need NoField (field_value (codes "signature-input") m.fields)
  signature ← need NoField (field_value (codes "signature") m.fields)
  inputs ← need NotAField (dictionary_of input)
  signatures ← need NotAField (dictionary_of signature)
  Ok (record { inputs = inputs; signatures = signatures })

-- the one inner list with the tag, and the signature under its label
abbrev pub tagged_in : List ℕ → SignatureFields → Result Signature SigFault
tagged_in tag fields = do
  one ← only_one (with_tag tag fields.inputs)
  _ ← must Malformed (is_well_formed one.1)
  bytes ← need Malformed (signature_under one.0 fields.signatures)
  Ok (record { label = one.0; list = one.1; bytes = bytes })

-- the signature with the tag
unfoldable pub tagged : Message → List ℕ → Result Signature SigFault
tagged m tag = do
  fields ← signature_fields m
  tagged_in tag fields

-- the list covers what it must, is in time, and names no other algorithm
unfoldable pub admitted : Message → ℕ → InnerList → Result (Unit {0}) SigFault
admitted m now list = do
  _ ← must Uncovered (covers_enough m list)
  _ ← must Created (is_in_window now (value_at list.params (codes "created")))
  _ ← must Expired (is_not_expired now (value_at list.params (codes "expires")))
  _ ← must Alg (absent_or (is_string (codes "hmac-sha256")) (value_at list.params (codes "alg")))
  Ok tt

-- the id of the key that the list names, where the bytes are the HMAC of this text under it and the body has the right digest
unfoldable pub made_under : Message → List ℕ → List (List ℕ × List ℕ) → InnerList → List ℕ → Result (List ℕ) SigFault
made_under m text ring list bytes = do
  key ← need UnknownKey (key_in ring (value_at list.params (codes "keyid")))
  _ ← must Differs (bytes_eq bytes (hmac_sha256 key.1 text))
  _ ← must Digest (has_right_digest m)
  Ok key.0

-- the id of the key that made these bytes for the message, over this signature base, with these parameters and near this time
unfoldable pub judged_over : Message → List ℕ → List (List ℕ × List ℕ) → ℕ → InnerList → List ℕ → Result (List ℕ) SigFault
judged_over m text ring now list bytes = do
  _ ← admitted m now list
  made_under m text ring list bytes

-- the same over the signature base of the message to the server with this base
unfoldable pub judged : Message → List ℕ → List (List ℕ × List ℕ) → ℕ → Signature → Result (List ℕ) SigFault
judged m base ring now one = do
  text ← need Unsupported (signature_base m base one.list)
  judged_over m text ring now one.list one.bytes

-- The id of the key, or the first fault.
unfoldable pub verified : Message → List ℕ → List (List ℕ × List ℕ) → ℕ → List ℕ → Result (List ℕ) SigFault
verified m base ring now tag = do
  one ← tagged m tag
  judged m base ring now one

-- ---- the inner list with a tag, whatever field `Signature` has

-- the one inner list of `signature-input` with the tag, or why there isn't exactly one
abbrev pub lone_list : Message → List ℕ → Result InnerList SigFault
lone_list m tag = do
  input ← need NoField (field_value (codes "signature-input") m.fields)
  inputs ← need NotAField (dictionary_of input)
  one ← only_one (with_tag tag inputs)
  Ok one.1
