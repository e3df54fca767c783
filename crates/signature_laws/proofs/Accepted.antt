-- An id is the answer exactly where the message is accepted under it.
use Rattle.std.proofs.Common.{◌≡◌, ℕ, true, List, Some, Ok, refl, ap, ◌∙◌, subst}
use Rattle.std.specs.Prelude.{codes}
use Rattle.std.specs.Str.{bytes_eq}
use Rattle.std.proofs.lemmas.Slice.Eq.{bytes_eq-Decides}
use Rattle.bytes_and_lists.specs.declared.message.Message.{Message}
use Rattle.structured_fields.specs.declared.item.Member.{Member}
use Rattle.structured_fields.specs.Named.{value_at}
use Rattle.structured_fields.specs.Reading.{dictionary_of}
use Rattle.structured_fields.specs.Strings.{is_string}
use Rattle.hmac_key.specs.Hmac.{hmac_sha256}
use Rattle.message_signature.specs.declared.fault.SigFault.TheVariants.{NoField, NotAField, Malformed, Unsupported, Uncovered, Created, Expired, Alg, UnknownKey, Differs, Digest}
use Rattle.message_signature.specs.declared.tags.SignatureFields.{SignatureFields}
use Rattle.message_signature.specs.Components.{field_value}
use Rattle.message_signature.specs.Base.{signature_base}
use Rattle.message_signature.specs.Verified.{with_tag, only_one, signature_under, absent_or, is_well_formed, covers_enough, is_in_window, is_not_expired, key_in, has_right_digest, Signature, signature_fields, tagged_in, tagged, admitted, made_under, judged_over, judged, verified}
use Rattle.message_signature.specs.Marks.{mark_of}
use Rattle.message_signature.proofs.CheckSteps.{step_ok, need_ok, must_ok}
use Rattle.message_signature.proofs.VerifiedParts.{IsKey, key_says}
use Rattle.signature_laws.specs.Accepted.{IsDictionaryField, IsTheTagged, IsAccepted, VerifiedIsAccepted, AcceptedIsVerified, AcceptedIsMarked}
use Rattle.signature_laws.proofs.AcceptedTag.{tagged_says, tagged_made}
use Rattle.signature_laws.proofs.AcceptedTests.{algorithm_decides, algorithm_is_string, integer_passes, string_passes, window_says, window_passes, expiry_says, expiry_passes, key_found}
use Rattle.signature_laws.proofs.AcceptedParts.{base_is_of_strings, expires_is_integer, HasBytes, bytes_say, bytes_found, cover_says, covered_passes, digest_says, digest_passes}

-- the one signature with the tag, and where it stands
record IsTagged (m : Message) (tag : List ℕ) (one : Signature) : Type 0 where
  inputs : List (List ℕ × Member)
  inputs_are : IsDictionaryField m (codes "signature-input") inputs
  is : IsTheTagged tag inputs one.label one.list
  formed : is_well_formed one.list ≡ true
  signatures : List (List ℕ × Member)
  signatures_are : IsDictionaryField m (codes "signature") signatures
  has : HasBytes one.label signatures one.bytes

abbrev AreFields : Message → SignatureFields → Type 0
AreFields m fields = IsDictionaryField m (codes "signature-input") fields.inputs × IsDictionaryField m (codes "signature") fields.signatures

fields_are : (m : Message) (fields : SignatureFields) → signature_fields m ≡ Ok fields → AreFields m fields
fields_are m fields e =
    let input = need_ok NoField (field_value (codes "signature-input") m.fields) _ fields e in
    let signature = need_ok NoField (field_value (codes "signature") m.fields) _ fields input.rest in
    let inputs = need_ok NotAField (dictionary_of input.value) _ fields signature.rest in
    let signatures = need_ok NotAField (dictionary_of signature.value) _ fields inputs.rest in
    let found : SignatureFields = record { inputs = inputs.value; signatures = signatures.value } in
    let same : found ≡ fields = cc in
    subst (AreFields m) same (
      record { text = input.value; value = input.is; reads = inputs.is },
      record
          { text = signature.value; value = signature.is; reads = signatures.is },
    )

module _ (m : Message) (tag : List ℕ) where
  tagged_is : (one : Signature) → tagged m tag ≡ Ok one → IsTagged m tag one
  unfolding tagged
  tagged_is one e =
      let both = step_ok (signature_fields m) (tagged_in tag) one e in
      let fields = fields_are m both.value both.is in
      let only = step_ok (only_one (with_tag tag both.value.inputs)) _ one both.rest in
      let formed = must_ok Malformed (is_well_formed only.value.1) _ one only.rest in
      let bytes = need_ok Malformed (signature_under only.value.0 both.value.signatures) _ one formed.1 in
      let found : Signature = record { label = only.value.0; list = only.value.1; bytes = bytes.value } in
      let same : found ≡ one = cc in
      subst (IsTagged m tag) same (record {
        inputs = both.value.inputs;
        inputs_are = fields.0;
        is = tagged_says tag both.value.inputs only.value only.is;
        formed = formed.0;
        signatures = both.value.signatures;
        signatures_are = fields.1;
        has = bytes_say only.value.0 both.value.signatures bytes.value bytes.is;
      })

  tagged_found : (one : Signature) → IsTagged m tag one → tagged m tag ≡ Ok one
  unfolding tagged
  tagged_found one t =
      rw (
        t.inputs_are.value,
        t.signatures_are.value,
        t.inputs_are.reads,
        t.signatures_are.reads,
        tagged_made tag t.inputs one.label one.list t.is,
        t.formed,
        bytes_found one.label t.signatures one.bytes t.has,
      ) refl

  module _ (base : List ℕ) (ring : List (List ℕ × List ℕ)) (now : ℕ) (id : List ℕ) where
    accepted : (one : Signature) → IsTagged m tag one → judged m base ring now one ≡ Ok id → IsAccepted m base ring now tag id
    unfolding judged judged_over admitted made_under
    accepted one t e =
        let list = one.list in
        let text = need_ok Unsupported (signature_base m base list) _ id e in
        let both = step_ok (admitted m now list) (λ _. made_under m text.value ring list one.bytes) id text.rest in
        let covered = must_ok Uncovered (covers_enough m list) _ both.value both.is in
        let created = must_ok Created (is_in_window now (value_at list.params (codes "created"))) _ both.value covered.1 in
        let expires = must_ok Expired (is_not_expired now (value_at list.params (codes "expires"))) _ both.value created.1 in
        let alg = must_ok Alg (absent_or (is_string (codes "hmac-sha256")) (value_at list.params (codes "alg"))) _ both.value expires.1 in
        let key = need_ok UnknownKey (key_in ring (value_at list.params (codes "keyid"))) _ id both.rest in
        let right = must_ok Differs (bytes_eq one.bytes (hmac_sha256 key.value.1 text.value)) _ id key.rest in
        let digest = must_ok Digest (has_right_digest m) _ id right.1 in
        let same : key.value.0 ≡ id = cc in
        let covers = cover_says m list covered.0 in
        let window = window_says now (value_at list.params (codes "created")) created.0 in
        let keyid = value_at list.params (codes "keyid") in
        let by_key = subst (λ (i : List ℕ). IsKey ring keyid i key.value.1) same (key_says ring keyid key.value key.is) in
        let body = digest_says m digest.0 in
        record {
          inputs = t.inputs;
          inputs_are = t.inputs_are;
          label = one.label;
          list = list;
          tagged = t.is;
          created = window.0;
          created_is = window.1;
          near = window.2;
          expires = expiry_says now (value_at list.params (codes "expires")) (expires_is_integer list t.formed) expires.0;
          alg = (algorithm_decides (codes "hmac-sha256") (value_at list.params (codes "alg"))).0 alg.0;
          method = covers.method;
          target = covers.target;
          digest = covers.digest;
          authorization = covers.authorization;
          keyid = by_key.keyid;
          secret = key.value.1;
          key = by_key.key;
          text = text.value;
          text_is = text.is;
          signatures = t.signatures;
          signatures_are = t.signatures_are;
          signature = t.has.signature;
          signed = t.has.is;
          right = t.has.bytes_are ∙ ap (λ (b : List ℕ). Some b) ((bytes_eq-Decides one.bytes (hmac_sha256 key.value.1 text.value)).0 right.0);
          fits = body.fits;
          body = body.body;
        }

    module _ (a : IsAccepted m base ring now tag id) where
      abbrev bytes : List ℕ
      bytes = hmac_sha256 a.secret a.text

      formed : is_well_formed a.list ≡ true
      formed = rw (
        base_is_of_strings m base a.list a.text a.text_is,
        integer_passes (value_at a.list.params (codes "created")) a.created a.created_is,
        (expiry_passes now (value_at a.list.params (codes "expires")) a.expires).0,
        string_passes (value_at a.list.params (codes "keyid")) id a.keyid,
        algorithm_is_string (codes "hmac-sha256") (value_at a.list.params (codes "alg")) a.alg,
      ) refl

      abbrev one : Signature
      one = record { label = a.label; list = a.list; bytes = bytes }

      judged_found : judged m base ring now one ≡ Ok id
      unfolding judged judged_over admitted made_under
      judged_found =
          rw (
            a.text_is,
            covered_passes m a.list (record { method = a.method; target = a.target; digest = a.digest; authorization = a.authorization }),
            ap (is_in_window now) a.created_is ∙ window_passes now a.created a.near,
            (expiry_passes now (value_at a.list.params (codes "expires")) a.expires).1,
            (algorithm_decides (codes "hmac-sha256") (value_at a.list.params (codes "alg"))).1 a.alg,
            key_found ring (value_at a.list.params (codes "keyid")) id a.secret a.keyid a.key,
            (bytes_eq-Decides bytes bytes).1 refl,
            digest_passes m (record { fits = a.fits; body = a.body }),
          ) refl

      found : verified m base ring now tag ≡ Ok id
      unfolding verified
      found =
          let t = tagged_found one (record {
            inputs = a.inputs;
            inputs_are = a.inputs_are;
            is = a.tagged;
            formed = formed;
            signatures = a.signatures;
            signatures_are = a.signatures_are;
            has = record { signature = a.signature; is = a.signed; bytes_are = a.right };
          }) in
          rw t judged_found

pub verified_accepted : VerifiedIsAccepted
unfolding verified
verified_accepted m base ring now tag id e =
    let one = step_ok (tagged m tag) (judged m base ring now) id e in
    accepted m tag base ring now id one.value (tagged_is m tag one.value one.is) one.rest

pub accepted_verified : AcceptedIsVerified
accepted_verified m base ring now tag id a = found m tag base ring now id a

-- ---- the mark

pub accepted_is_marked : AcceptedIsMarked
unfolding mark_of
accepted_is_marked m base ring now tag id a = rw (a.inputs_are.value, a.inputs_are.reads, tagged_made tag a.inputs a.label a.list a.tagged) refl
