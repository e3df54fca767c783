-- The steps of signing.
use Rattle.std.proofs.Common.{◌≡◌, ℕ, Bool, true, false, not, cond, ◌&&◌, List, [], ◌∷◌, ◌++◌, map, length, Option, Some, None, refl, ap, ◌∙◌, subst, arith}
use Rattle.std.specs.Prelude.{codes, option_map}
use Rattle.std.specs.List.{list_all}
use Rattle.std.proofs.Math.Seq.{take-append_seam, take-length}
use Rattle.std.proofs.lemmas.Bool.{and_parts}
use Rattle.std.proofs.lemmas.Bool.Decides.{nat_tests}
use Rattle.bytes_and_lists.specs.declared.message.Field.{Field}
use Rattle.bytes_and_lists.specs.declared.message.Message.{Message}
use Rattle.structured_fields.specs.declared.item.Item.{Item}
use Rattle.structured_fields.specs.declared.bare.Bare.TheVariants.{Binary}
use Rattle.structured_fields.specs.Canonical.{IsInRange}
use Rattle.structured_fields.specs.Letters.{is_string_byte}
use Rattle.structured_fields.proofs.Fronts.{some_is}
use Rattle.content_digest.specs.Digest.{digest_text}
use Rattle.hmac_key.specs.Hmac.{hmac_sha256}
use Rattle.message_signature.specs.Verified.{has_body, has_field}
use Rattle.message_signature.specs.Marks.{has_nonce_length, is_nonce_byte, is_nonce}
use Rattle.message_signature.specs.Signed.{field, with_fields, with_digest, covered, component_item, cut}
use Rattle.message_signature.proofs.SignedFields.{hmac_range, names}

pub digest_added : (m : Message) (fields : List Field) → has_body m ≡ true → has_field (codes "content-digest") m ≡ false
    → fields ≡ m.fields ++ field (codes "content-digest") (digest_text m.body) ∷ [] → record m { fields = fields } ≡ with_digest m
digest_added m fields a b e = rw (a, b) (ap (λ (fs : List Field). record m { fields = fs }) e)

abbrev some_item : Bool → List ℕ → List Item
some_item is_covered name = cond is_covered (component_item name ∷ []) []

pub covered_items : (m : Message) (body token : Bool) → body ≡ has_body m → token ≡ has_field (codes "authorization") m
    → (component_item (codes "@method") ∷ component_item (codes "@target-uri") ∷ some_item body (codes "content-digest"))
    ++ some_item token (codes "authorization") ≡ map component_item (covered m)
covered_items m body token p q =
    ap (λ (a : Bool). (component_item (codes "@method") ∷ component_item (codes "@target-uri") ∷ some_item a (codes "content-digest"))
    ++ some_item token (codes "authorization")) p
    ∙ ap (λ (b : Bool). (component_item (codes "@method") ∷ component_item (codes "@target-uri") ∷ some_item (has_body m) (codes "content-digest"))
    ++ some_item b (codes "authorization")) q
    ∙ by (has_body m) (has_field (codes "authorization") m)
  where
    by : (a b : Bool) → (component_item (codes "@method") ∷ component_item (codes "@target-uri") ∷ some_item a (codes "content-digest"))
        ++ some_item b (codes "authorization") ≡ map component_item (names a b)
    by false false = refl
    by false true = refl
    by true false = refl
    by true true = refl

pub cut_digest : (m : Message) → cut (length m.fields) (with_digest m) ≡ m
cut_digest m = by (has_body m && not (has_field (codes "content-digest") m))
  where
    by : (b : Bool) → cut (length m.fields) (cond b (with_fields (field (codes "content-digest") (digest_text m.body) ∷ []) m) m) ≡ m
    by true = ap (λ (fields : List Field). record m { fields = fields }) (take-append_seam m.fields (field (codes "content-digest") (digest_text m.body) ∷ []))
    by false = ap (λ (fields : List Field). record m { fields = fields }) (take-length m.fields)

pub signature_range : (secret : List ℕ) (text : Option (List ℕ)) (bytes : List ℕ) → option_map (hmac_sha256 secret) text ≡ Some bytes → IsInRange (Binary bytes)
signature_range secret (Some text) bytes e = subst (λ (b : List ℕ). IsInRange (Binary b)) (some_is _ _ e) (hmac_range secret text)
signature_range secret None bytes e = absurd cc

-- ---- nonces

nonce_letter : (c : ℕ) → is_nonce_byte c ≡ true → is_string_byte c ≡ true
nonce_letter c h = grind (arith, nat_tests)

pub nonce_letters : (nonce : List ℕ) → list_all is_nonce_byte nonce ≡ true → list_all is_string_byte nonce ≡ true
nonce_letters [] h = refl
nonce_letters (c ∷ nonce) h = let both = and_parts _ _ h in rw (nonce_letter c both.0, nonce_letters nonce both.1) refl

pub is_nonce_parts : (nonce : List ℕ) → is_nonce nonce ≡ true → (has_nonce_length nonce ≡ true) × (list_all is_nonce_byte nonce ≡ true)
is_nonce_parts nonce fits = and_parts (has_nonce_length nonce) (list_all is_nonce_byte nonce) fits
