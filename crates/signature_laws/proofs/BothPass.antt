-- A message that was signed by both keys gives both.
use Rattle.std.proofs.Common.{◌≡◌, ℕ, ◌<◌, ◌^◌, Bool, true, false, not, ◌&&◌, ◌||◌, List, [], ◌∷◌, Option, Some, None, Result, Ok, refl, sym, ap, ◌∙◌, subst}
use Rattle.std.specs.Prelude.{codes, is_some, IfSome}
use Rattle.std.specs.List.{list_all}
use Rattle.std.specs.Str.{bytes_eq}
use Rattle.std.proofs.lemmas.Bool.{or_parts}
use Rattle.bytes_and_lists.specs.declared.message.Field.{Field}
use Rattle.bytes_and_lists.specs.declared.message.Message.{Message}
use Rattle.structured_fields.specs.declared.bare.Bare.{Bare}
use Rattle.structured_fields.specs.declared.item.InnerList.{InnerList}
use Rattle.structured_fields.specs.declared.item.Member.TheVariants.{Inner}
use Rattle.structured_fields.specs.Named.{value_at}
use Rattle.structured_fields.specs.Letters.{is_string_byte}
use Rattle.structured_fields.specs.Canonical.{IsInnerInRange}
use Rattle.structured_fields.specs.Strings.{is_any_string}
use Rattle.hmac_key.specs.Hmac.{hmac_sha256}
use Rattle.message_signature.specs.declared.fault.SigFault.{SigFault}
use Rattle.message_signature.specs.declared.fault.SigFault.TheVariants.{Unsupported, UnknownKey, Differs, Digest}
use Rattle.message_signature.specs.declared.tags.SignatureFields.{SignatureFields}
use Rattle.message_signature.specs.Components.{values_of, field_value}
use Rattle.message_signature.specs.Faults.{◌>>=◌, need}
use Rattle.message_signature.specs.Base.{is_named, signature_base}
use Rattle.message_signature.specs.Verified.{is_well_formed, has_body, has_field, covers_enough, key_in, has_right_digest, Signature, signature_fields, tagged_in, tagged, admitted, made_under, judged_over, judged, verified}
use Rattle.message_signature.specs.Signed.{has_signature, with_fields, with_digest, params_of, signature_input, signature_lines, label}
use Rattle.message_signature.proofs.CheckSteps.{step_ok, need_ok, must_ok}
use Rattle.message_signature.proofs.Appended.{value_beside, value_added}
use Rattle.message_signature.proofs.SignedFields.{names, params_range, params_distinct}
use Rattle.message_signature.proofs.SignedBase.{there_is, none_is, always_based}
use Rattle.rotation_checks.specs.RotationBase.{base_with, rotation_base}
use Rattle.rotation_checks.specs.SecondSignature.{first_tag, second_tag, judged_again, verified_again, is_chained}
use Rattle.key_rotation.specs.SignedRotation.{second_label, are_first_alone, is_signed, rotation_input, second_lines, signed_rotation}
use Rattle.rotation_checks.proofs.Members.{members_are}
use Rattle.key_rotation.proofs.SecondBase.{items_of, based, input_range}
use Rattle.signature_laws.specs.Rotation.{AreKeysOf, SignedIsSigned, CanPassAgain, BothPass}
use Rattle.signature_laws.proofs.FieldsAgain.{input, input_trimmed, input_again, signature, signature_trimmed, signature_again, names_range}
use Rattle.signature_laws.proofs.Digested.{digested, base_same, signed_is}
use Rattle.signature_laws.proofs.Passes.{same, params_have, strings, in_window, no_field, signed_passes}
use Rattle.signature_laws.proofs.ByBoth.{same_value, by_both_is_rotated}
use Rattle.signature_laws.proofs.SignedAgain.{base_same as again_same, signed_again_is}
use Rattle.signature_laws.proofs.TwoLines.{value_of_two, joined_text, input_trimmed as second_trimmed, bytes_member, signature_trimmed as second_bytes_trimmed, inputs_of, inputs_again, signatures_of, signatures_again}

-- ---- items

strings_again : (body token : Bool) → list_all (λ i. is_any_string i.bare) (items_of body token) ≡ true
strings_again false false = refl
strings_again false true = refl
strings_again true false = refl
strings_again true true = refl

covers_again : (body token : Bool) → (is_named (codes "@method") (items_of body token) && is_named (codes "@target-uri") (items_of body token)
    && (not body || is_named (codes "content-digest") (items_of body token))
    && (not token || is_named (codes "authorization") (items_of body token))) ≡ true
covers_again false false = refl
covers_again false true = refl
covers_again true false = refl
covers_again true true = refl

chained_again : (body token : Bool) (params : List (List ℕ × Bare)) → is_chained label (record { items = items_of body token; params = params }) ≡ true
chained_again false false params = refl
chained_again false true params = refl
chained_again true false params = refl
chained_again true true params = refl

-- ---- fields that are not looked at

-- where a message has other fields, but the same digest and authorization, a signature over the same base is judged alike
judged_kept : (n : Message) (fields : List Field) (base : List ℕ) (ring : List (List ℕ × List ℕ)) (now : ℕ) (one : Signature)
    → field_value (codes "content-digest") fields ≡ field_value (codes "content-digest") n.fields
    → field_value (codes "authorization") fields ≡ field_value (codes "authorization") n.fields
    → signature_base (record n { fields = fields }) base one.list ≡ signature_base n base one.list
    → judged (record n { fields = fields }) base ring now one ≡ judged n base ring now one
unfolding judged judged_over admitted made_under
judged_kept n fields base ring now one d t b = rw (b, d, t) refl

-- a message whose signature passes has the right digest
digest_passes : (n : Message) (base : List ℕ) (ring : List (List ℕ × List ℕ)) (now : ℕ) (one : Signature) (id : List ℕ) → judged n base ring now one ≡ Ok id
    → has_right_digest n ≡ true
unfolding judged judged_over made_under
digest_passes n base ring now one id e =
    let text = need_ok Unsupported (signature_base n base one.list) _ id e in
    let both = step_ok (admitted n now one.list) (λ _. made_under n text.value ring one.list one.bytes) id text.rest in
    let key = need_ok UnknownKey (key_in ring (value_at one.list.params (codes "keyid"))) _ id both.rest in
    let right = must_ok Differs (bytes_eq one.bytes (hmac_sha256 key.value.1 text.value)) _ id key.rest in
    (must_ok Digest (has_right_digest n) _ id right.1).0

-- ---- the first signature, behind the fields of a message that has its digest

module _ (w : Message) (id secret text : List ℕ) (created : ℕ) (nonce : Option (List ℕ))
    (no_input : has_field (codes "signature-input") w ≡ false) (no_signature : has_field (codes "signature") w ≡ false)
    (created_size : created < 10 ^ 15) (id_text : list_all is_string_byte id ≡ true) (nonce_text : IfSome nonce (λ n. list_all is_string_byte n ≡ true)) where
  abbrev list : InnerList
  list = signature_input w (params_of id created nonce first_tag)

  abbrev bytes : List ℕ
  bytes = hmac_sha256 secret text

  abbrev lines : List Field
  lines = signature_lines list bytes

  abbrev n : Message
  n = with_fields lines w

  abbrev one : Signature
  one = record { label = label; list = list; bytes = bytes }

  list_range : IsInnerInRange list
  list_range = record {
    items = names_range (has_body w) (has_field (codes "authorization") w);
    params = params_range id created nonce first_tag created_size id_text nonce_text refl;
    distinct = params_distinct id created nonce first_tag;
  }

  formed : is_well_formed list ≡ true
  formed =
      let has = params_have id created nonce first_tag in
      rw (strings (names (has_body w) (has_field (codes "authorization") w)), has.no_expires, has.no_alg) refl

  kept : (name : List ℕ) → values_of name lines ≡ [] → field_value name n.fields ≡ field_value name w.fields
  kept name none = value_beside name w.fields lines none

  abbrev fields : SignatureFields
  fields = record { inputs = input w id created nonce first_tag; signatures = signature bytes }

  fields_are : signature_fields n ≡ Ok fields
  fields_are = rw (
    value_added (codes "signature-input") w.fields lines _ (ap (λ (t : List ℕ). t ∷ []) (input_trimmed w id created nonce first_tag)) (none_is _ no_input),
    value_added (codes "signature") w.fields lines _ (ap (λ (t : List ℕ). t ∷ []) (signature_trimmed bytes)) (none_is _ no_signature),
    input_again w id created nonce first_tag created_size id_text nonce_text refl,
    signature_again secret text,
  ) refl

  tagged_is : tagged n first_tag ≡ Ok one
  unfolding tagged
  tagged_is =
      let found : tagged_in first_tag fields ≡ Ok one = rw ((params_have id created nonce first_tag).tag_is, formed) refl in
      ap (λ (r : Result SignatureFields SigFault). r >>= tagged_in first_tag) fields_are ∙ found

  -- ---- and the second behind it

  module _ (base new_id new_secret new_text : List ℕ) (moment : ℕ) (moment_size : moment < 10 ^ 15) (new_id_text : list_all is_string_byte new_id ≡ true) where
    abbrev second_list : InnerList
    second_list = rotation_input n new_id moment

    abbrev second_bytes : List ℕ
    second_bytes = hmac_sha256 new_secret new_text

    abbrev more : List Field
    more = second_lines second_list second_bytes

    abbrev r : Message
    r = with_fields more n

    abbrev two : Signature
    two = record { label = second_label; list = second_list; bytes = second_bytes }

    kept_again : (name : List ℕ) → values_of name more ≡ [] → field_value name r.fields ≡ field_value name n.fields
    kept_again name none = value_beside name n.fields more none

    abbrev both_fields : SignatureFields
    both_fields = record { inputs = inputs_of list second_list; signatures = signatures_of bytes second_bytes }

    both_are : signature_fields r ≡ Ok both_fields
    both_are = rw (
      value_of_two (codes "signature-input") w.fields lines more _ _ (ap (λ (t : List ℕ). t ∷ []) (input_trimmed w id created nonce first_tag))
          (ap (λ (t : List ℕ). t ∷ []) (second_trimmed n new_id moment)) (none_is _ no_input)
          ∙ ap (λ (t : List ℕ). Some t) (joined_text (label, Inner list) (second_label, Inner second_list)),
      value_of_two (codes "signature") w.fields lines more _ _ (ap (λ (t : List ℕ). t ∷ []) (signature_trimmed bytes))
          (ap (λ (t : List ℕ). t ∷ []) (second_bytes_trimmed second_bytes)) (none_is _ no_signature)
          ∙ ap (λ (t : List ℕ). Some t) (joined_text (label, bytes_member bytes) (second_label, bytes_member second_bytes)),
      inputs_again list second_list list_range (input_range n new_id moment moment_size new_id_text),
      signatures_again secret text new_secret new_text,
    ) refl

    first_is : tagged r first_tag ≡ Ok one
    unfolding tagged
    first_is =
        let found : tagged_in first_tag both_fields ≡ Ok one = rw ((params_have id created nonce first_tag).tag_is, formed) refl in
        ap (λ (r : Result SignatureFields SigFault). r >>= tagged_in first_tag) both_are ∙ found

    formed_again : is_well_formed second_list ≡ true
    formed_again = rw (strings_again (has_body n) (has_field (codes "authorization") n)) refl

    second_is : tagged r second_tag ≡ Ok two
    unfolding tagged
    second_is =
        let found : tagged_in second_tag both_fields ≡ Ok two = rw ((params_have id created nonce first_tag).tag_is, formed_again) refl in
        ap (λ (r : Result SignatureFields SigFault). r >>= tagged_in second_tag) both_are ∙ found

    covers : covers_enough r second_list ≡ true
    covers = rw (kept_again (codes "authorization") refl) (covers_again (has_body n) (has_field (codes "authorization") n))

    based_again : rotation_base r base second_list ≡ rotation_base n base second_list
    based_again =
        ap (λ (f : SignatureFields). base_with r base f second_list) (members_are r both_fields both_are)
        ∙ again_same n r.fields base fields both_fields (params_of new_id moment None second_tag) (has_body n) (has_field (codes "authorization") n)
        (kept_again (codes "content-digest") refl) (kept_again (codes "authorization") refl) refl refl
        ∙ sym (ap (λ (f : SignatureFields). base_with n base f second_list) (members_are n fields fields_are))

    first_based : signature_base r base list ≡ signature_base n base list
    first_based =
        base_same w r.fields base _ (has_body w) (has_field (codes "authorization") w)
        (kept_again (codes "content-digest") refl ∙ kept (codes "content-digest") refl)
        (kept_again (codes "authorization") refl ∙ kept (codes "authorization") refl)
        ∙ sym (base_same w n.fields base _ (has_body w) (has_field (codes "authorization") w) (kept (codes "content-digest") refl)
        (kept (codes "authorization") refl))

    module _ (ring : List (List ℕ × List ℕ)) (now : ℕ) (first_passes : judged n base ring now one ≡ Ok id)
        (can : CanPassAgain ring new_id new_secret moment now)
        (text_is : rotation_base n base second_list ≡ Some new_text) where
      old_is : judged r base ring now one ≡ Ok id
      old_is = judged_kept n r.fields base ring now one (kept_again (codes "content-digest") refl) (kept_again (codes "authorization") refl) first_based
          ∙ first_passes

      new_is : judged_again r base ring now two ≡ Ok new_id
      unfolding judged_again judged_over admitted made_under
      new_is =
          let digest : has_right_digest r ≡ true = rw (kept_again (codes "content-digest") refl) (digest_passes n base ring now one id first_passes) in
          let over : judged_over r new_text ring now second_list second_bytes ≡ Ok new_id =
          rw (covers, in_window moment now can.not_early can.not_late, can.key, same second_bytes, digest) refl in
          ap (λ (text : Option (List ℕ)). need Unsupported text >>= λ t. judged_over r t ring now second_list second_bytes) (based_again ∙ text_is) ∙ over

      are_keys : AreKeysOf r base ring now (record { old = id; new = new_id })
      unfolding verified verified_again
      are_keys = record {
        old = ap (λ (x : Result Signature SigFault). x >>= judged r base ring now) first_is ∙ old_is;
        new = ap (λ (x : Result Signature SigFault). x >>= judged_again r base ring now) second_is ∙ new_is;
        first = one;
        first_is = first_is;
        second = two;
        second_is = second_is;
        covers = chained_again (has_body n) (has_field (codes "authorization") n) (params_of new_id moment None second_tag);
      }

-- ---- every signed message

digest_there : (body digest : Bool) → (body ≡ true → digest ≡ true) → (not body || digest) ≡ true
digest_there true digest h = h refl
digest_there false digest h = refl

module _ (m : Message) (id secret : List ℕ) (created : ℕ) (nonce : Option (List ℕ)) (unsigned : has_signature m ≡ false)
    (created_size : created < 10 ^ 15) (id_text : list_all is_string_byte id ≡ true) (nonce_text : IfSome nonce (λ n. list_all is_string_byte n ≡ true)) where
  abbrev digested_one : Message
  digested_one = with_digest m

  no_input_in : has_field (codes "signature-input") digested_one ≡ false
  no_input_in = no_field m digested_one (codes "signature-input") (digested m) refl (or_parts _ _ unsigned).0

  no_signature_in : has_field (codes "signature") digested_one ≡ false
  no_signature_in = no_field m digested_one (codes "signature") (digested m) refl (or_parts _ _ unsigned).1

  signed_one : (text : List ℕ) → is_signed (n digested_one id secret text created nonce no_input_in no_signature_in created_size id_text nonce_text) ≡ true
  signed_one text =
      let w = digested_one in
      let digest : (not (has_body w) || has_field (codes "content-digest")
      (n w id secret text created nonce no_input_in no_signature_in created_size id_text nonce_text)) ≡ true =
      ap (λ (o : Option (List ℕ)). not (has_body w) || is_some o)
      (kept w id secret text created nonce no_input_in no_signature_in created_size id_text nonce_text (codes "content-digest") refl)
      ∙ digest_there (has_body w) (has_field (codes "content-digest") w) (digested m).there in
      ap (λ (r : Result SignatureFields SigFault). are_first_alone r
      && (not (has_body w) || has_field (codes "content-digest")
      (n w id secret text created nonce no_input_in no_signature_in created_size id_text nonce_text)))
      (fields_are w id secret text created nonce no_input_in no_signature_in created_size id_text nonce_text) ∙ digest

pub signed_is_signed : SignedIsSigned
signed_is_signed m k base id secret created nonce is unsigned created_size id_text nonce_text =
    let text = there_is _ (always_based m base (params_of id created nonce first_tag)) in
    subst (λ (x : Message). is_signed x ≡ true) (signed_is m k base (params_of id created nonce first_tag) secret text.value text.is is)
    (signed_one m id secret created nonce unsigned created_size id_text nonce_text text.value)

-- the signature that a message has with the first tag is the one that passed
judged_first : (signed : Message) (first : Signature) (base : List ℕ) (ring : List (List ℕ × List ℕ)) (old : List ℕ) (now : ℕ)
    → verified signed base ring now first_tag ≡ Ok old
    → tagged signed first_tag ≡ Ok first → judged signed base ring now first ≡ Ok old
unfolding verified
judged_first signed first base ring old now e t =
    let step = step_ok (tagged signed first_tag) (judged signed base ring now) old e in
    ap (judged signed base ring now) (same_value (tagged signed first_tag) first step.value t step.is) ∙ step.rest

pub both_pass : BothPass
both_pass m k x base ring old old_secret created nonce new new_secret moment now is can again can_again =
    let w = with_digest m in
    let params = params_of old created nonce first_tag in
    let text = there_is _ (always_based m base params) in
    let no_input = no_input_in m old old_secret created nonce can.unsigned can.created_size can.id_text can.nonce_text in
    let no_signature = no_signature_in m old old_secret created nonce can.unsigned can.created_size can.id_text can.nonce_text in
    let signed : Message = n w old old_secret text.value created nonce no_input no_signature can.created_size can.id_text can.nonce_text in
    let first : Signature = one w old old_secret text.value created nonce no_input no_signature can.created_size can.id_text can.nonce_text in
    let signed_same : signed ≡ k = signed_is m k base params old_secret text.value text.is is in
    let passes : verified signed base ring now first_tag ≡ Ok old =
    subst (λ (y : Message). verified y base ring now first_tag ≡ Ok old) (sym signed_same)
    (signed_passes m k base ring old old_secret created nonce first_tag now is can) in
    let first_passes : judged signed base ring now first ≡ Ok old = judged_first signed first base ring old now passes
    (tagged_is w old old_secret text.value created nonce no_input no_signature can.created_size can.id_text can.nonce_text) in
    let new_text = there_is _ (based signed base new moment
    (signed_one m old old_secret created nonce can.unsigned can.created_size can.id_text can.nonce_text text.value)) in
    let again_signed : signed_rotation signed base new new_secret moment ≡ Some x =
    subst (λ (y : Message). signed_rotation y base new new_secret moment ≡ Some x) (sym signed_same) again in
    let whole = signed_again_is signed x base new new_secret moment new_text.value new_text.is again_signed in
    let keys = are_keys w old old_secret text.value created nonce no_input no_signature can.created_size can.id_text can.nonce_text
    base new new_secret new_text.value moment can_again.created_size can_again.id_text ring now first_passes can_again new_text.is in
    by_both_is_rotated x base ring now _ (subst (λ (y : Message). AreKeysOf y base ring now (record { old = old; new = new })) whole keys)
