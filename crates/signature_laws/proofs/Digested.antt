-- A message with the digest of its body, and what other fields leave as it is.
use Rattle.std.proofs.Common.{◌≡◌, ℕ, Bool, true, false, not, cond, ◌&&◌, List, Some, refl, sym, ap, ◌∙◌, subst, true≢false}
use Rattle.std.specs.Prelude.{codes, is_some, option_map}
use Rattle.std.specs.Str.{bytes_eq}
use Rattle.bytes_and_lists.specs.declared.message.Field.{Field}
use Rattle.bytes_and_lists.specs.declared.message.Message.{Message}
use Rattle.structured_fields.specs.declared.bare.Bare.{Bare}
use Rattle.structured_fields.proofs.Fronts.{some_is}
use Rattle.content_digest.specs.Digest.{digest_text}
use Rattle.content_digest.specs.Judged.{Fits}
use Rattle.content_digest.proofs.DigestLine.{line_fits}
use Rattle.hmac_key.specs.Hmac.{hmac_sha256}
use Rattle.message_signature.specs.Components.{component, field_value}
use Rattle.message_signature.specs.Base.{base_lines, signature_base}
use Rattle.message_signature.specs.Verified.{has_body, has_field}
use Rattle.message_signature.specs.Signed.{field, with_fields, with_digest, signature_input, signature_lines, signed_under}
use Rattle.message_signature.proofs.Appended.{value_beside}
use Rattle.message_signature.proofs.SignedBase.{digest_name, digest_lines, digest_value, list_of, signed_with}

-- ---- the digest of the body

-- a digest that is there fits the body
abbrev pub HasFitting : Message → Type 0
HasFitting m = (field : List ℕ) → field_value (codes "content-digest") m.fields ≡ Some field → Fits field m.body

-- what the message with the digest keeps, and what it has
pub record IsDigested (m w : Message) : Type 0 where
  pub body : w.body ≡ m.body
  pub beside : (name : List ℕ) → bytes_eq (codes "content-digest") name ≡ false → field_value name w.fields ≡ field_value name m.fields
  pub there : has_body w ≡ true → has_field (codes "content-digest") w ≡ true
  pub fits : HasFitting m → HasFitting w

pub digested : (m : Message) → IsDigested m (with_digest m)
digested m = by (has_body m) (has_field digest_name m) refl refl
  where
    by : (a b : Bool) → has_body m ≡ a → has_field digest_name m ≡ b → IsDigested m (cond (a && not b) (with_fields (digest_lines m) m) m)
    by true true p q = record { body = refl; beside = λ name other. refl; there = λ h. q; fits = λ h. h }
    by false b p q = record { body = refl; beside = λ name other. refl; there = λ h. absurd (true≢false (sym h ∙ p)); fits = λ h. h }
    by true false p q =
        let added = digest_value m q in
        record {
          body = refl;
          beside = λ name other. value_beside name m.fields (digest_lines m) (rw other refl);
          there = λ h. ap is_some added;
          fits = λ h field e. let same : digest_text m.body ≡ field = cc in subst (λ (t : List ℕ). Fits t m.body) same (line_fits m.body);
        }

-- ---- the signed message

-- other fields leave it as it is
pub base_same : (m : Message) (fields : List Field) (base : List ℕ) (params : List (List ℕ × Bare)) (body token : Bool)
    → field_value (codes "content-digest") fields ≡ field_value (codes "content-digest") m.fields
    → field_value (codes "authorization") fields ≡ field_value (codes "authorization") m.fields
    → signature_base (record m { fields = fields }) base (list_of body token params) ≡ signature_base m base (list_of body token params)
unfolding signature_base base_lines component
base_same m fields base params false false d t = refl
base_same m fields base params true false d t = rw d refl
base_same m fields base params false true d t = rw t refl
base_same m fields base params true true d t = rw (d, t) refl

-- which fields a signed message has
pub signed_is : (m n : Message) (base : List ℕ) (params : List (List ℕ × Bare)) (secret : List ℕ) (text : List ℕ)
    → signature_base (with_digest m) base (signature_input (with_digest m) params) ≡ Some text
    → signed_under m base params secret ≡ Some n
    → with_fields (signature_lines (signature_input (with_digest m) params) (hmac_sha256 secret text)) (with_digest m) ≡ n
signed_is m n base params secret text base_is is =
    let w = with_digest m in
    some_is _ _ (sym (signed_with m w base params secret (hmac_sha256 secret text) (signature_input w params) _ _ refl refl
    (ap (option_map (hmac_sha256 secret)) base_is) refl refl) ∙ is)
