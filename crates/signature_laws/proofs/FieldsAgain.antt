-- The two dictionaries that signing adds: each has nothing to be trimmed, and is read again.
use Rattle.std.proofs.Common.{◌≡◌, ℕ, ◌<◌, ◌^◌, Bool, true, false, List, [], ◌∷◌, ◌++◌, map, Option, Some, None, refl, sym, ap, ◌∙◌, subst, append_assoc}
use Rattle.std.specs.Prelude.{codes, pos, IfSome}
use Rattle.std.specs.List.{flat_map, list_all, AllByRecursion}
use Rattle.std.proofs.lemmas.List.{append-nil}
use Rattle.bytes_and_lists.specs.declared.message.Message.{Message}
use Rattle.structured_fields.specs.declared.bare.Bare.TheVariants.{Integer, Str, Binary}
use Rattle.structured_fields.specs.declared.item.Item.{Item}
use Rattle.structured_fields.specs.declared.item.Member.{Member}
use Rattle.structured_fields.specs.declared.item.Member.TheVariants.{Item as Single, Inner}
use Rattle.structured_fields.specs.Letters.{is_string_byte}
use Rattle.structured_fields.specs.Grammar.{in_string}
use Rattle.structured_fields.specs.Reading.{dictionary_of, trimmed}
use Rattle.structured_fields.specs.Canonical.{value_text, item_text, separated_text, inner_text, dictionary_text, IsItemInRange}
use Rattle.structured_fields.proofs.Whole.{dictionary_of_again}
use Rattle.structured_fields.proofs.Written.{dictionary_text_is}
use Rattle.content_digest.proofs.Ends.{EndsIn, binary_ends}
use Rattle.hmac_key.specs.Hmac.{hmac_sha256}
use Rattle.message_signature.specs.Signed.{covered, component_item, params_of, signature_input, under_label, label}
use Rattle.message_signature.proofs.Appended.{trimmed_same}
use Rattle.message_signature.proofs.SignedFields.{hmac_range, names, params_distinct, params_range}

-- ---- texts that end in a byte that isn't trimmed

pub ends_more : {last : ℕ} (a : List ℕ) {text : List ℕ} → EndsIn last text → EndsIn last (a ++ text)
ends_more {last} a e = record { front = a ++ e.front; is = ap (λ (t : List ℕ). a ++ t) e.is ∙ sym (append_assoc a e.front (last ∷ [])) }

pub ends_nil : {last : ℕ} {text : List ℕ} → EndsIn last text → EndsIn last (text ++ [])
ends_nil {last} {text} e = subst (EndsIn last) (sym (append-nil text)) e

-- ---- the signature

abbrev pub signature : List ℕ → List (List ℕ × Member)
signature bytes = under_label label (Single (record { bare = Binary bytes; params = [] }))

pub signature_trimmed : (bytes : List ℕ) → trimmed (dictionary_text (signature bytes)) ≡ dictionary_text (signature bytes)
signature_trimmed bytes = trimmed_same (dictionary_text (signature bytes)) 58 (ends_nil (ends_more (codes "sig1=") (ends_nil (binary_ends bytes)))) refl refl

pub signature_again : (key text : List ℕ) → dictionary_of (dictionary_text (signature (hmac_sha256 key text))) ≡ Some (signature (hmac_sha256 key text))
signature_again key text =
    let d = signature (hmac_sha256 key text) in
    dictionary_of_again (dictionary_text d) d (dictionary_text_is d (record {
      entries = ((refl, record { bare = hmac_range key text; params = tt; distinct = tt }), tt);
      distinct = (refl, tt);
    }))

-- ---- the signature's input

name_range : (name : List ℕ) → list_all is_string_byte name ≡ true → IsItemInRange (component_item name)
name_range name h = record { bare = h; params = tt; distinct = tt }

pub names_range : (body token : Bool) → AllByRecursion IsItemInRange (map component_item (names body token))
names_range false false = (name_range _ refl, (name_range _ refl, tt))
names_range false true = (name_range _ refl, (name_range _ refl, (name_range _ refl, tt)))
names_range true false = (name_range _ refl, (name_range _ refl, (name_range _ refl, tt)))
names_range true true = (name_range _ refl, (name_range _ refl, (name_range _ refl, (name_range _ refl, tt))))

-- the last parameter is a String
tag_ends : (tag : List ℕ) → EndsIn 34 ((59 ∷ codes "tag" ++ value_text (Str tag)) ++ [])
tag_ends tag = ends_nil (ends_more (codes ";tag=") (record { front = 34 ∷ flat_map in_string tag; is = refl }))

pub inner_ends : (items : List Item) (id : List ℕ) (created : ℕ) (nonce : Option (List ℕ)) (tag : List ℕ)
    → EndsIn 34 (inner_text (record { items = items; params = params_of id created nonce tag }))
inner_ends items id created None tag =
    ends_more (40 ∷ separated_text (32 ∷ []) item_text items) (ends_more (41 ∷ []) (
    ends_more (59 ∷ codes "created" ++ value_text (Integer (pos created))) (ends_more (59 ∷ codes "keyid" ++ value_text (Str id)) (tag_ends tag))))
inner_ends items id created (Some nonce) tag =
    ends_more (40 ∷ separated_text (32 ∷ []) item_text items) (ends_more (41 ∷ []) (
    ends_more (59 ∷ codes "created" ++ value_text (Integer (pos created))) (ends_more (59 ∷ codes "keyid" ++ value_text (Str id)) (
    ends_more (59 ∷ codes "nonce" ++ value_text (Str nonce)) (tag_ends tag)))))

module _ (m : Message) (id : List ℕ) (created : ℕ) (nonce : Option (List ℕ)) (tag : List ℕ) where
  abbrev pub input : List (List ℕ × Member)
  input = under_label label (Inner (signature_input m (params_of id created nonce tag)))

  pub input_trimmed : trimmed (dictionary_text input) ≡ dictionary_text input
  input_trimmed = trimmed_same (dictionary_text input) 34
      (ends_nil (ends_more (codes "sig1=") (inner_ends (map component_item (covered m)) id created nonce tag))) refl refl

  pub input_again : created < 10 ^ 15 → list_all is_string_byte id ≡ true → IfSome nonce (λ n. list_all is_string_byte n ≡ true)
      → list_all is_string_byte tag ≡ true
      → dictionary_of (dictionary_text input) ≡ Some input
  input_again c i n t = dictionary_of_again (dictionary_text input) input (dictionary_text_is input (record {
    entries = (
      (refl, record { items = names_range _ _; params = params_range id created nonce tag c i n t; distinct = params_distinct id created nonce tag }),
      tt,
    );
    distinct = (refl, tt);
  }))
