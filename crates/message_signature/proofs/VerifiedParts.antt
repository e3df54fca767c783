-- What the answer of verifying says of the key and of the mark.
use Rattle.std.proofs.Common.{◌≡◌, ◌∙◌, ℕ, List, Option, Some, None, Result, Ok, Err, refl, sym, ap, subst}
use Rattle.std.specs.Prelude.{codes}
use Rattle.std.specs.Str.{bytes_eq}
use Rattle.bytes_and_lists.specs.declared.message.Message.{Message}
use Rattle.structured_fields.specs.declared.bare.Bare.{Bare}
use Rattle.structured_fields.specs.declared.bare.Bare.TheVariants.{Integer, Decimal, Str, Token, Binary, Boolean, Date, Display}
use Rattle.structured_fields.specs.declared.item.InnerList.{InnerList}
use Rattle.structured_fields.specs.Named.{value_at}
use Rattle.structured_fields.specs.Reading.{dictionary_of}
use Rattle.structured_fields.proofs.Fronts.{some_is}
use Rattle.hmac_key.specs.Hmac.{hmac_sha256}
use Rattle.message_signature.specs.declared.fault.SigFault.{SigFault}
use Rattle.message_signature.specs.declared.fault.SigFault.TheVariants.{NoField, NotAField, Malformed, Unsupported, UnknownKey, Differs, Digest}
use Rattle.message_signature.specs.declared.tags.SignatureFields.{SignatureFields}
use Rattle.message_signature.specs.Components.{field_value}
use Rattle.message_signature.specs.Base.{signature_base}
use Rattle.message_signature.specs.Faults.{◌>>=◌}
use Rattle.message_signature.specs.Verified.{with_tag, only_one, signature_under, is_well_formed, key_in, has_right_digest, Signature, signature_fields, tagged_in, tagged, admitted, made_under, judged_over, judged, verified, lone_list}
use Rattle.message_signature.specs.Marks.{mark_in, mark_in_found, mark_of}
use Rattle.message_signature.specs.Marked.{with_mark, verified_marked, id_and_mark}
use Rattle.message_signature.proofs.CheckSteps.{step_ok, need_ok, must_ok}

-- ---- the key

pub record IsKey (ring : List (List ℕ × List ℕ)) (o : Option Bare) (id secret : List ℕ) : Type 0 where
  pub keyid : o ≡ Some (Str id)
  pub key : value_at ring id ≡ Some secret

pub key_says : (ring : List (List ℕ × List ℕ)) (o : Option Bare) (key : List ℕ × List ℕ) → key_in ring o ≡ Some key → IsKey ring o key.0 key.1
key_says ring (Some (Str id)) key h = by (value_at ring id) refl h
  where
    by : (s : Option (List ℕ)) → value_at ring id ≡ s → key_in ring (Some (Str id)) ≡ Some key → IsKey ring (Some (Str id)) key.0 key.1
    by (Some secret) e h =
        let found : List ℕ × List ℕ = (id, secret) in
        let same : found ≡ key = some_is found key (sym (rw e refl) ∙ h) in
        subst (λ (k : List ℕ × List ℕ). IsKey ring (Some (Str id)) k.0 k.1) same (record { keyid = refl; key = e })
    by None e h = absurd cc
key_says ring (Some (Integer n)) key h = absurd cc
key_says ring (Some (Decimal n)) key h = absurd cc
key_says ring (Some (Token s)) key h = absurd cc
key_says ring (Some (Binary b)) key h = absurd cc
key_says ring (Some (Boolean b)) key h = absurd cc
key_says ring (Some (Date n)) key h = absurd cc
key_says ring (Some (Display t)) key h = absurd cc
key_says ring None key h = absurd cc

-- an id that is the answer has a secret in the ring
pub verified_key : (m : Message) (base : List ℕ) (ring : List (List ℕ × List ℕ)) (now : ℕ) (tag id : List ℕ) → verified m base ring now tag ≡ Ok id
    → (secret : List ℕ) × (value_at ring id ≡ Some secret)
unfolding verified judged judged_over made_under
verified_key m base ring now tag id e =
    let one = step_ok (tagged m tag) (judged m base ring now) id e in
    let list = one.value.list in
    let text = need_ok Unsupported (signature_base m base list) _ id one.rest in
    let both = step_ok (admitted m now list) (λ _. made_under m text.value ring list one.value.bytes) id text.rest in
    let key = need_ok UnknownKey (key_in ring (value_at list.params (codes "keyid"))) _ id both.rest in
    let right = must_ok Differs (bytes_eq one.value.bytes (hmac_sha256 key.value.1 text.value)) _ id key.rest in
    let digest = must_ok Digest (has_right_digest m) _ id right.1 in
    let same : key.value.0 ≡ id = cc in
    (key.value.1, subst (λ (i : List ℕ). value_at ring i ≡ Some key.value.1) same (key_says ring (value_at list.params (codes "keyid")) key.value key.is).key)

-- ---- the mark

-- the list of the signature with the tag is the only one with it
tagged_list_is : (m : Message) (tag : List ℕ) (one : Signature) → tagged m tag ≡ Ok one → lone_list m tag ≡ Ok one.list
unfolding tagged
tagged_list_is m tag one e =
    let both = step_ok (signature_fields m) (tagged_in tag) one e in
    let fields : SignatureFields = both.value in
    let input = need_ok NoField (field_value (codes "signature-input") m.fields) _ fields both.is in
    let signature = need_ok NoField (field_value (codes "signature") m.fields) _ fields input.rest in
    let inputs = need_ok NotAField (dictionary_of input.value) _ fields signature.rest in
    let signatures = need_ok NotAField (dictionary_of signature.value) _ fields inputs.rest in
    let found : SignatureFields = record { inputs = inputs.value; signatures = signatures.value } in
    let same : found ≡ fields = cc in
    let only = step_ok (only_one (with_tag tag fields.inputs)) _ one both.rest in
    let formed = must_ok Malformed (is_well_formed only.value.1) _ one only.rest in
    let bytes = need_ok Malformed (signature_under only.value.0 fields.signatures) _ one formed.1 in
    let whole : Signature = record { label = only.value.0; list = only.value.1; bytes = bytes.value } in
    let is : whole ≡ one = cc in
    rw (input.is, inputs.is, ap (λ (f : SignatureFields). only_one (with_tag tag f.inputs)) same ∙ only.is) (ap (λ (s : Signature). Ok s.list) is)

tagged_mark : (m : Message) (tag : List ℕ) (one : Signature) → tagged m tag ≡ Ok one → mark_of m tag ≡ mark_in one.list
unfolding mark_of
tagged_mark m tag one e = ap mark_in_found (tagged_list_is m tag one e)

pub id_and_mark_is : (m : Message) (base : List ℕ) (ring : List (List ℕ × List ℕ)) (now : ℕ) (tag : List ℕ)
    → id_and_mark m base ring now tag ≡ verified_marked m base ring now tag
unfolding id_and_mark verified
id_and_mark_is m base ring now tag = by (tagged m tag) refl
  where
    with_id : (list : InnerList) (id : Result (List ℕ) SigFault) → (id >>= λ i. Ok (i, mark_in list)) ≡ with_mark (mark_in list) id
    with_id list (Ok i) = refl
    with_id list (Err fault) = refl

    by : (r : Result Signature SigFault) → tagged m tag ≡ r → id_and_mark m base ring now tag ≡ verified_marked m base ring now tag
    by (Ok one) e = rw (e, tagged_mark m tag one e) (with_id one.list (judged m base ring now one))
    by (Err fault) e = rw e refl
