-- What it says of a message that its signature is accepted (RFC 9421, section 3.2), in words.
use Rattle.std.specs.Prelude.{◌≡◌, ℕ, ◌+◌, ◌≤◌, ◌⊎◌, true, List, [], ◌∷◌, ◌++◌, Some, None, Ok, IfSome, ℤ, pos, negsuc, codes}
use Rattle.std.specs.List.{AllByRecursion}
use Rattle.bytes_and_lists.specs.declared.message.Message.{Message}
use Rattle.structured_fields.specs.declared.bare.Bare.TheVariants.{Integer, Str}
use Rattle.structured_fields.specs.declared.item.InnerList.{InnerList}
use Rattle.structured_fields.specs.declared.item.Member.{Member}
use Rattle.structured_fields.specs.declared.item.Member.TheVariants.{Item as Single, Inner}
use Rattle.structured_fields.specs.Named.{value_at}
use Rattle.structured_fields.specs.Reading.{dictionary_of}
use Rattle.content_digest.specs.Digest.{sequence_of}
use Rattle.content_digest.specs.Judged.{checked}
use Rattle.hmac_key.specs.Hmac.{hmac_sha256}
use Rattle.message_signature.specs.Components.{field_value}
use Rattle.message_signature.specs.Base.{is_named, signature_base}
use Rattle.message_signature.specs.Verified.{verified}
use Rattle.message_signature.specs.Marks.{mark_in, mark_of}

-- the field is there, and is this dictionary
pub record IsDictionaryField (m : Message) (name : List ℕ) (d : List (List ℕ × Member)) : Type 0 where
  pub text : List ℕ
  pub value : field_value name m.fields ≡ Some text
  pub reads : dictionary_of text ≡ Some d

abbrev pub HasTag : List ℕ → Member → Type 0
HasTag tag (Inner list) = value_at list.params (codes "tag") ≡ Some (Str tag)
HasTag tag (Single item) = ⊥

-- the list stands under the label, and it alone has the tag
pub record IsTheTagged (tag : List ℕ) (inputs : List (List ℕ × Member)) (label : List ℕ) (list : InnerList) : Type 0 where
  pub before : List (List ℕ × Member)
  pub after : List (List ℕ × Member)
  pub split : inputs ≡ before ++ (label, Inner list) ∷ after
  pub has : HasTag tag (Inner list)
  pub others : AllByRecursion (λ e. HasTag tag e.1 → ⊥) (before ++ after)

-- at most 300 seconds apart
abbrev pub IsNear : ℕ → ℤ → Type 0
IsNear now (pos moment) = (moment ≤ now + 300) × (now ≤ moment + 300)
IsNear now (negsuc before) = now + (before + 1) ≤ 300

-- not past it
abbrev pub IsUpTo : ℕ → ℤ → Type 0
IsUpTo now (pos moment) = now ≤ moment
IsUpTo now (negsuc before) = ⊥

-- The message to the server with this base has one signature with this tag, made near now under this id's secret, and it covers what it must.
pub record IsAccepted (m : Message) (base : List ℕ) (ring : List (List ℕ × List ℕ)) (now : ℕ) (tag id : List ℕ) : Type 0 where
  pub inputs : List (List ℕ × Member)
  pub inputs_are : IsDictionaryField m (codes "signature-input") inputs
  pub label : List ℕ
  pub list : InnerList
  pub tagged : IsTheTagged tag inputs label list
  -- it was made near now, hasn't expired, and names no other algorithm
  pub created : ℤ
  pub created_is : value_at list.params (codes "created") ≡ Some (Integer created)
  pub near : IsNear now created
  pub expires : IfSome (value_at list.params (codes "expires")) (λ v. (moment : ℤ) × (v ≡ Integer moment) × IsUpTo now moment)
  pub alg : IfSome (value_at list.params (codes "alg")) (λ v. v ≡ Str (codes "hmac-sha256"))
  -- the method and the target URI are covered, the digest of a body, and an authorization
  pub method : is_named (codes "@method") list.items ≡ true
  pub target : is_named (codes "@target-uri") list.items ≡ true
  pub digest : (m.body ≡ []) ⊎ (is_named (codes "content-digest") list.items ≡ true)
  pub authorization : (field_value (codes "authorization") m.fields ≡ None) ⊎ (is_named (codes "authorization") list.items ≡ true)
  -- the bytes under its label are the HMAC of its base under the id's secret
  pub keyid : value_at list.params (codes "keyid") ≡ Some (Str id)
  pub secret : List ℕ
  pub key : value_at ring id ≡ Some secret
  pub text : List ℕ
  pub text_is : signature_base m base list ≡ Some text
  pub signatures : List (List ℕ × Member)
  pub signatures_are : IsDictionaryField m (codes "signature") signatures
  pub signature : Member
  pub signed : value_at signatures label ≡ Some signature
  pub right : sequence_of signature ≡ Some (hmac_sha256 secret text)
  -- the body is the one whose digest is there
  pub fits : IfSome (field_value (codes "content-digest") m.fields) (λ field. checked field m.body ≡ Ok tt)
  pub body : (m.body ≡ []) ⊎ ((field : List ℕ) × (field_value (codes "content-digest") m.fields ≡ Some field))

-- ---- the laws

-- where the answer is an id, the message is accepted under it
abbrev pub VerifiedIsAccepted : Type 0
VerifiedIsAccepted = (m : Message) (base : List ℕ) (ring : List (List ℕ × List ℕ)) (now : ℕ) (tag id : List ℕ)
    → verified m base ring now tag ≡ Ok id → IsAccepted m base ring now tag id

-- where a message is accepted under an id, that is the answer
abbrev pub AcceptedIsVerified : Type 0
AcceptedIsVerified = (m : Message) (base : List ℕ) (ring : List (List ℕ × List ℕ)) (now : ℕ) (tag id : List ℕ)
    → IsAccepted m base ring now tag id → verified m base ring now tag ≡ Ok id

-- where a message is accepted, its mark is that of the list whose signature was accepted
abbrev pub AcceptedIsMarked : Type 0
AcceptedIsMarked = (m : Message) (base : List ℕ) (ring : List (List ℕ × List ℕ)) (now : ℕ) (tag id : List ℕ)
    → (accepted : IsAccepted m base ring now tag id) → mark_of m tag ≡ mark_in accepted.list
