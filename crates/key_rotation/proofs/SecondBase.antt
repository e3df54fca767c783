-- The base of the second signature, and the range of its list.
use Rattle.std.proofs.Common.{◌≡◌, ◌∷◌, [], ◌++◌, ℕ, ◌<◌, ◌^◌, Bool, true, false, not, ◌&&◌, ◌||◌, List, map, Option, Some, None, Result, Ok, Err, refl, sym, ap, ◌∙◌, subst}
use Rattle.std.specs.Prelude.{codes, is_some, IsSome, option_map, length, ◌==◌}
use Rattle.std.specs.List.{list_all, AllByRecursion}
use Rattle.std.proofs.lemmas.Bool.{and_parts}
use Rattle.bytes_and_lists.specs.declared.message.Field.{Field}
use Rattle.bytes_and_lists.specs.declared.message.Message.{Message}
use Rattle.structured_fields.specs.declared.bare.Bare.{Bare}
use Rattle.structured_fields.specs.declared.item.Item.{Item}
use Rattle.structured_fields.specs.declared.item.InnerList.{InnerList}
use Rattle.structured_fields.specs.declared.item.Member.{Member}
use Rattle.structured_fields.specs.Letters.{is_string_byte}
use Rattle.structured_fields.specs.Named.{value_at}
use Rattle.structured_fields.specs.Reading.{◌>>=◌}
use Rattle.structured_fields.specs.Canonical.{IsItemInRange, IsInnerInRange}
use Rattle.structured_fields.proofs.Fronts.{some_is}
use Rattle.hmac_key.specs.Hmac.{hmac_sha256}
use Rattle.message_signature.specs.declared.fault.SigFault.{SigFault}
use Rattle.message_signature.specs.declared.tags.SignatureFields.{SignatureFields}
use Rattle.message_signature.specs.Components.{component}
use Rattle.message_signature.specs.Verified.{has_body, has_field, signature_fields}
use Rattle.message_signature.specs.Signed.{with_fields, component_item, params_of, label}
use Rattle.message_signature.proofs.SignedFields.{names, params_range, params_distinct}
use Rattle.message_signature.proofs.SignedBase.{there_is}
use Rattle.rotation_checks.specs.RotationBase.{rotation_lines, base_with, rotation_base}
use Rattle.rotation_checks.specs.SecondSignature.{second_tag}
use Rattle.key_rotation.specs.SignedRotation.{is_inner, has_only_first, are_first_alone, is_signed, member_item, rotation_input, second_lines, signed_rotation}
use Rattle.rotation_checks.proofs.Members.{members_are}

-- ---- what it covers: the digest of a body, an access token, and the first signature

abbrev pub items_of : Bool → Bool → List Item
items_of body token = map component_item (names body token) ++ member_item (codes "signature") ∷ member_item (codes "signature-input") ∷ []

abbrev pub list_of : Bool → Bool → List (List ℕ × Bare) → InnerList
list_of body token params = record { items = items_of body token; params = params }

-- ---- its base

-- where the digest of a body is there, a token that is covered, and the first signature
base_there : (m : Message) (base : List ℕ) (fields : SignatureFields) (params : List (List ℕ × Bare)) (body token : Bool)
    → (body ≡ true → has_field (codes "content-digest") m ≡ true) → (token ≡ true → has_field (codes "authorization") m ≡ true)
    → is_some (value_at fields.signatures label) ≡ true → is_some (value_at fields.inputs label) ≡ true
    → IsSome (base_with m base fields (list_of body token params))
unfolding base_with rotation_lines component
base_there m base fields params false false d t s i = rw ((there_is _ s).is, (there_is _ i).is) refl
base_there m base fields params true false d t s i = rw ((there_is _ (d refl)).is, (there_is _ s).is, (there_is _ i).is) refl
base_there m base fields params false true d t s i = rw ((there_is _ (t refl)).is, (there_is _ s).is, (there_is _ i).is) refl
base_there m base fields params true true d t s i = rw ((there_is _ (d refl)).is, (there_is _ (t refl)).is, (there_is _ s).is, (there_is _ i).is) refl

-- ---- a message that can be signed again

pub record IsSigned (m : Message) : Type 0 where
  pub fields : SignatureFields
  pub are : signature_fields m ≡ Ok fields
  pub only : has_only_first fields ≡ true
  pub digest : (not (has_body m) || has_field (codes "content-digest") m) ≡ true

pub signed_parts : (m : Message) → is_signed m ≡ true → IsSigned m
signed_parts m h =
    let both = and_parts (are_first_alone (signature_fields m)) (not (has_body m) || has_field (codes "content-digest") m) h in
    by (signature_fields m) refl both.0 both.1
  where
    by : (r : Result SignatureFields SigFault) → signature_fields m ≡ r → are_first_alone r ≡ true
        → (not (has_body m) || has_field (codes "content-digest") m) ≡ true → IsSigned m
    by (Ok fields) e o d = record { fields = fields; are = e; only = o; digest = d }
    by (Err fault) e o d = cc o

-- what was tested of the fields, and of the digest
pub alone_is_signed : (m : Message) (fields : SignatureFields) → signature_fields m ≡ Ok fields → has_only_first fields ≡ true
    → (not (has_body m) || has_field (codes "content-digest") m) ≡ true → is_signed m ≡ true
alone_is_signed m fields e o d =
    ap (λ (r : Result SignatureFields SigFault). are_first_alone r && (not (has_body m) || has_field (codes "content-digest") m)) e
    ∙ ap (λ (b : Bool). b && (not (has_body m) || has_field (codes "content-digest") m)) o ∙ d

pub not_alone : (m : Message) (fields : SignatureFields) → signature_fields m ≡ Ok fields → has_only_first fields ≡ false → is_signed m ≡ false
not_alone m fields e o =
    ap (λ (r : Result SignatureFields SigFault). are_first_alone r && (not (has_body m) || has_field (codes "content-digest") m)) e
    ∙ ap (λ (b : Bool). b && (not (has_body m) || has_field (codes "content-digest") m)) o

pub not_digested : (m : Message) → (not (has_body m) || has_field (codes "content-digest") m) ≡ false → is_signed m ≡ false
not_digested m d = ap (λ (b : Bool). are_first_alone (signature_fields m) && b) d ∙ both (are_first_alone (signature_fields m))
  where
    both : (b : Bool) → (b && false) ≡ false
    both true = refl
    both false = refl

inner_there : (member : Option Member) → is_inner member ≡ true → is_some member ≡ true
inner_there (Some member) h = refl
inner_there None h = absurd cc

digest_there : (body digest : Bool) → (not body || digest) ≡ true → body ≡ true → digest ≡ true
digest_there true digest h e = h
digest_there false digest h e = cc e

pub based : (m : Message) (base id : List ℕ) (created : ℕ) → is_signed m ≡ true → IsSome (rotation_base m base (rotation_input m id created))
based m base id created h =
    let signed = signed_parts m h in
    let fields : SignatureFields = signed.fields in
    let last = and_parts ((length fields.inputs == 1) && is_inner (value_at fields.inputs label) && (length fields.signatures == 1))
    (is_some (value_at fields.signatures label)) signed.only in
    let second = and_parts ((length fields.inputs == 1) && is_inner (value_at fields.inputs label)) (length fields.signatures == 1) last.0 in
    let first = and_parts (length fields.inputs == 1) (is_inner (value_at fields.inputs label)) second.0 in
    subst (λ (f : SignatureFields). IsSome (base_with m base f (rotation_input m id created))) (sym (members_are m fields signed.are))
    (base_there m base fields (params_of id created None second_tag) (has_body m) (has_field (codes "authorization") m)
    (digest_there (has_body m) (has_field (codes "content-digest") m) signed.digest) (λ e. e) last.1 (inner_there (value_at fields.inputs label) first.1))

-- ---- the signed message, from the steps of signing

pub signed_with : (m : Message) (base id secret bytes : List ℕ) (created : ℕ) (list : InnerList) (fields more : List Field) → list ≡ rotation_input m id created
    → option_map (hmac_sha256 secret) (rotation_base m base list) ≡ Some bytes → more ≡ second_lines list bytes → fields ≡ m.fields ++ more
    → signed_rotation m base id secret created ≡ Some (record m { fields = fields })
unfolding signed_rotation
signed_with m base id secret bytes created list fields more b c d e =
    by (rotation_base m base (rotation_input m id created))
    (subst (λ (l : InnerList). option_map (hmac_sha256 secret) (rotation_base m base l) ≡ Some bytes) b c)
  where
    by : (text : Option (List ℕ)) → option_map (hmac_sha256 secret) text ≡ Some bytes
        → (text >>= λ t. Some (with_fields (second_lines (rotation_input m id created) (hmac_sha256 secret t)) m)) ≡ Some (record m { fields = fields })
    by (Some text) h =
        let same : second_lines (rotation_input m id created) (hmac_sha256 secret text) ≡ more =
        ap (second_lines (rotation_input m id created)) (some_is _ _ h) ∙ ap (λ (l : InnerList). second_lines l bytes) (sym b) ∙ sym d in
        ap (λ (fs : List Field). Some (record m { fields = fs })) (ap (λ (fs : List Field). m.fields ++ fs) same ∙ sym e)
    by None h = absurd cc

-- ---- its range

name_range : (name : List ℕ) → list_all is_string_byte name ≡ true → IsItemInRange (component_item name)
name_range name h = record { bare = h; params = tt; distinct = tt }

member_range : (name : List ℕ) → list_all is_string_byte name ≡ true → IsItemInRange (member_item name)
member_range name h = record { bare = h; params = ((refl, refl), tt); distinct = (refl, tt) }

items_range : (body token : Bool) → AllByRecursion IsItemInRange (items_of body token)
items_range false false = (name_range _ refl, (name_range _ refl, (member_range _ refl, (member_range _ refl, tt))))
items_range false true = (name_range _ refl, (name_range _ refl, (name_range _ refl, (member_range _ refl, (member_range _ refl, tt)))))
items_range true false = (name_range _ refl, (name_range _ refl, (name_range _ refl, (member_range _ refl, (member_range _ refl, tt)))))
items_range true true = (name_range _ refl, (name_range _ refl, (name_range _ refl, (name_range _ refl, (member_range _ refl, (member_range _ refl, tt))))))

pub input_range : (m : Message) (id : List ℕ) (created : ℕ) → created < 10 ^ 15 → list_all is_string_byte id ≡ true
    → IsInnerInRange (rotation_input m id created)
input_range m id created c i = record {
  items = items_range (has_body m) (has_field (codes "authorization") m);
  params = params_range id created None second_tag c i tt refl;
  distinct = params_distinct id created None second_tag;
}
