-- A message that was signed passes.
use Rattle.std.proofs.Common.{◌≡◌, ℕ, ◌+◌, ◌≤◌, Bool, true, false, not, ◌&&◌, ◌||◌, List, [], ◌∷◌, map, Option, Some, None, Ok, refl, sym, ap, ◌∙◌, subst, arith, true≢false}
use Rattle.std.specs.Prelude.{nat_le, ◌<◌, ◌^◌, codes, pos, is_some}
use Rattle.std.specs.List.{list_all}
use Rattle.std.specs.Str.{bytes_eq}
use Rattle.std.proofs.lemmas.Slice.Eq.{bytes_eq-Decides}
use Rattle.std.proofs.lemmas.Bool.{or_parts}
use Rattle.std.proofs.lemmas.Bool.Decides.{nat_tests}
use Rattle.bytes_and_lists.specs.declared.message.Message.{Message}
use Rattle.structured_fields.specs.declared.bare.Bare.{Bare}
use Rattle.structured_fields.specs.declared.bare.Bare.TheVariants.{Integer, Str}
use Rattle.structured_fields.specs.declared.item.InnerList.{InnerList}
use Rattle.structured_fields.specs.Named.{value_at}
use Rattle.structured_fields.specs.Canonical.{dictionary_text}
use Rattle.structured_fields.specs.Strings.{is_any_string}
use Rattle.content_digest.proofs.Judging.{fits_checked}
use Rattle.hmac_key.specs.Hmac.{hmac_sha256}
use Rattle.message_signature.specs.Components.{values_of, field_value}
use Rattle.message_signature.specs.Base.{is_named, signature_base}
use Rattle.message_signature.specs.Verified.{is_well_formed, has_body, has_field, covers_enough, is_in_window, has_right_digest, Signature, tagged, admitted, made_under, judged_over, judged, lone_list, verified}
use Rattle.message_signature.specs.Marks.{latest_created, mark_in, mark_in_found, mark_of, is_nonce}
use Rattle.message_signature.specs.Signed.{component_item, with_fields, with_digest, params_of, signature_input, label, signature_lines}
use Rattle.message_signature.proofs.Appended.{value_beside, value_added}
use Rattle.message_signature.proofs.SignedFields.{names}
use Rattle.message_signature.proofs.SignedBase.{there_is, none_is, always_based}
use Rattle.message_signature.proofs.SigningSteps.{nonce_letters, is_nonce_parts}
use Rattle.signature_laws.specs.Signing.{CanPass, SignedPasses, SignedIsMarked}
use Rattle.signature_laws.proofs.FieldsAgain.{input, input_trimmed, input_again, signature, signature_trimmed, signature_again}
use Rattle.signature_laws.proofs.Digested.{IsDigested, HasFitting, digested, base_same, signed_is}

pub same : (s : List ℕ) → bytes_eq s s ≡ true
same s = (bytes_eq-Decides s s).1 refl

-- ---- tests that pass

pub strings : (items : List (List ℕ)) → list_all (λ i. is_any_string i.bare) (map component_item items) ≡ true
strings [] = refl
strings (name ∷ items) = strings items

-- what the parameters have, with or without a nonce
pub record HasParams (params : List (List ℕ × Bare)) (tag : List ℕ) : Type 0 where
  pub tag_is : value_at params (codes "tag") ≡ Some (Str tag)
  pub no_expires : value_at params (codes "expires") ≡ None
  pub no_alg : value_at params (codes "alg") ≡ None

pub params_have : (id : List ℕ) (created : ℕ) (nonce : Option (List ℕ)) (tag : List ℕ) → HasParams (params_of id created nonce tag) tag
params_have id created None tag = record { tag_is = refl; no_expires = refl; no_alg = refl }
params_have id created (Some nonce) tag = record { tag_is = refl; no_expires = refl; no_alg = refl }

well_formed : (w : Message) (id : List ℕ) (created : ℕ) (nonce : Option (List ℕ)) (tag : List ℕ)
    → is_well_formed (signature_input w (params_of id created nonce tag)) ≡ true
well_formed w id created nonce tag =
    let has = params_have id created nonce tag in
    rw (strings (names (has_body w) (has_field (codes "authorization") w)), has.no_expires, has.no_alg) refl

pub in_window : (created now : ℕ) → created ≤ now + 300 → now ≤ created + 300 → is_in_window now (Some (Integer (pos created))) ≡ true
in_window created now a b = grind (arith, nat_tests)

right_digest : (w : Message) → HasFitting w → (has_body w ≡ true → has_field (codes "content-digest") w ≡ true) → has_right_digest w ≡ true
right_digest w fits there = by (field_value (codes "content-digest") w.fields) refl
  where
    by : (o : Option (List ℕ)) → field_value (codes "content-digest") w.fields ≡ o → has_right_digest w ≡ true
    by (Some field) e = rw (e, fits_checked field w.body (fits field e)) refl
    by None e = rw e (body (has_body w) refl)
      where
        body : (b : Bool) → has_body w ≡ b → not b ≡ true
        body false h = refl
        body true h = absurd (true≢false (sym (there h) ∙ ap is_some e))

module _ (w : Message) (id : List ℕ) (created : ℕ) (nonce : Option (List ℕ)) (tag : List ℕ) (bytes : List ℕ) where
  abbrev list : InnerList
  list = signature_input w (params_of id created nonce tag)

  abbrev after : Message
  after = with_fields (signature_lines list bytes) w

  -- ---- the fields of the signed message

  value_kept : (name : List ℕ) → values_of name (signature_lines list bytes) ≡ [] → field_value name after.fields ≡ field_value name w.fields
  value_kept name none = value_beside name w.fields (signature_lines list bytes) none

  input_value : has_field (codes "signature-input") w ≡ false
      → field_value (codes "signature-input") after.fields ≡ Some (dictionary_text (input w id created nonce tag))
  input_value none = value_added (codes "signature-input") w.fields (signature_lines list bytes) _
      (ap (λ (t : List ℕ). t ∷ []) (input_trimmed w id created nonce tag)) (none_is _ none)

  signature_value : has_field (codes "signature") w ≡ false → field_value (codes "signature") after.fields ≡ Some (dictionary_text (signature bytes))
  signature_value none = value_added (codes "signature") w.fields (signature_lines list bytes) _ (ap (λ (t : List ℕ). t ∷ []) (signature_trimmed bytes))
      (none_is _ none)

  covers : covers_enough after list ≡ true
  covers = rw (value_kept (codes "authorization") refl) (by (has_body w) (has_field (codes "authorization") w))
    where
      by : (body token : Bool) → (is_named (codes "@method") (map component_item (names body token))
          && is_named (codes "@target-uri") (map component_item (names body token))
          && (not body || is_named (codes "content-digest") (map component_item (names body token)))
          && (not token || is_named (codes "authorization") (map component_item (names body token)))) ≡ true
      by false false = refl
      by false true = refl
      by true false = refl
      by true true = refl

  digest_passes : HasFitting w → (has_body w ≡ true → has_field (codes "content-digest") w ≡ true) → has_right_digest after ≡ true
  digest_passes fits there = rw (value_kept (codes "content-digest") refl) (right_digest w fits there)

-- ---- the checks

-- a field other than the digest is as it was
pub no_field : (m w : Message) (name : List ℕ) → IsDigested m w → bytes_eq (codes "content-digest") name ≡ false → has_field name m ≡ false
    → has_field name w ≡ false
no_field m w name is other none = ap is_some (is.beside name other) ∙ none

module _ (m w : Message) (base : List ℕ) (ring : List (List ℕ × List ℕ)) (id secret : List ℕ) (created : ℕ) (nonce : Option (List ℕ)) (tag : List ℕ) (now : ℕ)
    (text : List ℕ)
    (can : CanPass m ring id secret created nonce tag now) (is : IsDigested m w)
    (base_is : signature_base w base (signature_input w (params_of id created nonce tag)) ≡ Some text) where
  abbrev bytes : List ℕ
  bytes = hmac_sha256 secret text

  abbrev signed_list : InnerList
  signed_list = signature_input w (params_of id created nonce tag)

  abbrev signed_one : Message
  signed_one = with_fields (signature_lines signed_list bytes) w

  abbrev one : Signature
  one = record { label = label; list = signed_list; bytes = bytes }

  tagged_is : tagged signed_one tag ≡ Ok one
  unfolding tagged
  tagged_is =
      let none = or_parts _ _ can.unsigned in
      let no_input = no_field m w (codes "signature-input") is refl none.0 in
      let no_signature = no_field m w (codes "signature") is refl none.1 in
      rw (
        input_value w id created nonce tag bytes no_input,
        signature_value w id created nonce tag bytes no_signature,
        input_again w id created nonce tag can.created_size can.id_text can.nonce_text can.tag_text,
        signature_again secret text,
        (params_have id created nonce tag).tag_is,
        same tag,
        well_formed w id created nonce tag,
      ) refl

  judged_is : judged signed_one base ring now one ≡ Ok id
  unfolding judged judged_over admitted made_under
  judged_is =
      let has = params_have id created nonce tag in
      let based : signature_base signed_one base signed_list ≡ Some text =
      base_same w signed_one.fields base _ (has_body w) (has_field (codes "authorization") w)
      (value_kept w id created nonce tag bytes (codes "content-digest") refl) (value_kept w id created nonce tag bytes (codes "authorization") refl)
      ∙ base_is in
      rw (
        based,
        covers w id created nonce tag bytes,
        in_window created now can.not_early can.not_late,
        has.no_expires,
        has.no_alg,
        can.key,
        same bytes,
        digest_passes w id created nonce tag bytes (is.fits can.digest) is.there,
      ) refl

  verified_is : verified signed_one base ring now tag ≡ Ok id
  unfolding verified
  verified_is = rw tagged_is judged_is

pub signed_passes : SignedPasses
signed_passes m n base ring id secret created nonce tag now is can =
    let w = with_digest m in
    let params = params_of id created nonce tag in
    let text = there_is _ (always_based m base params) in
    subst (λ (k : Message). verified k base ring now tag ≡ Ok id) (signed_is m n base params secret text.value text.is is)
    (verified_is m w base ring id secret created nonce tag now text.value can (digested m) text.is)

-- ---- the mark

at_most : (a b : ℕ) → a ≤ b → nat_le a b ≡ true
at_most a b h = grind (arith, nat_tests)

written : (created : ℕ) → created ≤ latest_created → created < 10 ^ 15
written created h = omega arith

module _ (w : Message) (id : List ℕ) (created : ℕ) (nonce tag bytes : List ℕ) (fits : is_nonce nonce ≡ true) (size : created ≤ latest_created) where
  abbrev marked_list : InnerList
  marked_list = signature_input w (params_of id created (Some nonce) tag)

  mark_of_list : mark_in marked_list ≡ Some (record { nonce = nonce; created = created })
  mark_of_list = rw ((is_nonce_parts nonce fits).0, at_most created latest_created size) refl

pub signed_is_marked : SignedIsMarked
unfolding mark_of
signed_is_marked m n base id secret created nonce tag is none i fits t size =
    let w = with_digest m in
    let params = params_of id created (Some nonce) tag in
    let text = there_is _ (always_based m base params) in
    let bytes = hmac_sha256 secret text.value in
    let no_input = no_field m w (codes "signature-input") (digested m) refl none in
    subst (λ (k : Message). mark_in_found (lone_list k tag) ≡ Some (record { nonce = nonce; created = created }))
    (signed_is m n base params secret text.value text.is is)
    (rw (
      input_value w id created (Some nonce) tag bytes no_input,
      input_again w id created (Some nonce) tag (written created size) i
          (nonce_letters nonce (is_nonce_parts nonce fits).1) t,
      same tag,
    ) (mark_of_list w id created nonce tag bytes fits size))
