-- A message with the digest of its body, and the signature base of a message that is signed.
use Rattle.std.proofs.Common.{◌≡◌, ◌∷◌, [], ◌++◌, ℕ, Bool, true, false, not, cond, ◌&&◌, List, map, Option, Some, None, refl, sym, ap, ◌∙◌, subst, true≢false}
use Rattle.std.specs.Prelude.{codes, is_some, IsSome, option_map}
use Rattle.bytes_and_lists.specs.declared.message.Field.{Field}
use Rattle.bytes_and_lists.specs.declared.message.Message.{Message}
use Rattle.structured_fields.specs.declared.bare.Bare.{Bare}
use Rattle.structured_fields.specs.declared.item.InnerList.{InnerList}
use Rattle.structured_fields.specs.Reading.{◌>>=◌}
use Rattle.structured_fields.proofs.Fronts.{some_is}
use Rattle.content_digest.specs.Digest.{digest_text}
use Rattle.hmac_key.specs.Hmac.{hmac_sha256}
use Rattle.message_signature.specs.Components.{component, field_value}
use Rattle.message_signature.specs.Base.{base_lines, signature_base}
use Rattle.message_signature.specs.Verified.{has_body, has_field}
use Rattle.message_signature.specs.Signed.{field, with_fields, with_digest, component_item, signature_input, signature_lines, signed_under}
use Rattle.message_signature.proofs.Appended.{value_added}
use Rattle.message_signature.proofs.SignedFields.{digest_trimmed, names}

-- ---- the digest of the body

abbrev pub digest_name : List ℕ
digest_name = codes "content-digest"

pub none_is : {A : Type 0} (o : Option A) → is_some o ≡ false → o ≡ None
none_is None h = refl
none_is (Some x) h = absurd cc

abbrev pub digest_lines : Message → List Field
digest_lines m = field digest_name (digest_text m.body) ∷ []

-- where there was none, it is that of the body
pub digest_value : (m : Message) → has_field digest_name m ≡ false → field_value digest_name (m.fields ++ digest_lines m) ≡ Some (digest_text m.body)
digest_value m none = value_added digest_name m.fields (digest_lines m) (digest_text m.body) (ap (λ (t : List ℕ). t ∷ []) (digest_trimmed m.body))
    (none_is _ none)

pub has_digest : (m : Message) → has_body (with_digest m) ≡ true → has_field digest_name (with_digest m) ≡ true
has_digest m = by (has_body m) (has_field digest_name m) refl refl
  where
    by : (a b : Bool) → has_body m ≡ a → has_field digest_name m ≡ b
        → has_body (cond (a && not b) (with_fields (digest_lines m) m) m) ≡ true
        → has_field digest_name (cond (a && not b) (with_fields (digest_lines m) m) m) ≡ true
    by true true p q h = q
    by false b p q h = absurd (true≢false (sym h ∙ p))
    by true false p q h = ap is_some (digest_value m q)

-- ---- the signature base

abbrev pub list_of : Bool → Bool → List (List ℕ × Bare) → InnerList
list_of body token params = record { items = map component_item (names body token); params = params }

pub record Is {A : Type 0} (o : Option A) : Type 0 where
  pub value : A
  pub is : o ≡ Some value

pub there_is : {A : Type 0} (o : Option A) → is_some o ≡ true → Is o
there_is (Some x) h = record { value = x; is = refl }
there_is None h = absurd cc

-- where the digest of a body is there, and a token that is covered
base_there : (m : Message) (base : List ℕ) (params : List (List ℕ × Bare)) (body token : Bool) → (body ≡ true → has_field (codes "content-digest") m ≡ true)
    → (token ≡ true → has_field (codes "authorization") m ≡ true)
    → IsSome (signature_base m base (list_of body token params))
unfolding signature_base base_lines component
base_there m base params false false d t = refl
base_there m base params true false d t = rw ((there_is _ (d refl)).is) refl
base_there m base params false true d t = rw ((there_is _ (t refl)).is) refl
base_there m base params true true d t = rw ((there_is _ (d refl)).is, (there_is _ (t refl)).is) refl

pub always_based : (m : Message) (base : List ℕ) (params : List (List ℕ × Bare))
    → IsSome (signature_base (with_digest m) base (signature_input (with_digest m) params))
always_based m base params =
    let w = with_digest m in
    base_there w base params (has_body w) (has_field (codes "authorization") w) (has_digest m) (λ h. h)

-- the signed message, from the steps of signing
pub signed_with : (m w : Message) (base : List ℕ) (params : List (List ℕ × Bare)) (secret bytes : List ℕ) (list : InnerList) (fields more : List Field)
    → w ≡ with_digest m → list ≡ signature_input w params
    → option_map (hmac_sha256 secret) (signature_base w base list) ≡ Some bytes → more ≡ signature_lines list bytes → fields ≡ w.fields ++ more
    → signed_under m base params secret ≡ Some (record w { fields = fields })
unfolding signed_under
signed_with m w base params secret bytes list fields more a b c d e =
    rw (sym a) (by (signature_base w base (signature_input w params))
    (subst (λ (l : InnerList). option_map (hmac_sha256 secret) (signature_base w base l) ≡ Some bytes) b c))
  where
    by : (text : Option (List ℕ)) → option_map (hmac_sha256 secret) text ≡ Some bytes
        → (text >>= λ t. Some (with_fields (signature_lines (signature_input w params) (hmac_sha256 secret t)) w)) ≡ Some (record w { fields = fields })
    by (Some text) h =
        let same : signature_lines (signature_input w params) (hmac_sha256 secret text) ≡ more =
        ap (signature_lines (signature_input w params)) (some_is _ _ h) ∙ ap (λ (l : InnerList). signature_lines l bytes) (sym b) ∙ sym d in
        ap (λ (fs : List Field). Some (record w { fields = fs })) (ap (λ (fs : List Field). w.fields ++ fs) same ∙ sym e)
    by None h = absurd cc

-- there is always a signed message
pub always_signed : (m : Message) (base : List ℕ) (params : List (List ℕ × Bare)) (secret : List ℕ) → IsSome (signed_under m base params secret)
always_signed m base params secret =
    let w = with_digest m in
    let text = there_is _ (always_based m base params) in
    ap is_some (signed_with m w base params secret (hmac_sha256 secret text.value) (signature_input w params) _ _ refl refl
    (ap (option_map (hmac_sha256 secret)) text.is) refl refl)
