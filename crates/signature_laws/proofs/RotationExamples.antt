-- The base of a second signature, computed: of a request to `/token` that names the new key `c2`.
use Rattle.std.proofs.Common.{◌≡◌, ℕ, List, [], ◌∷◌, ◌++◌, map, Some, codes, refl, true, false}
use Rattle.std.specs.Fmt.{digits}
use Rattle.base64.specs.Decode.{groups_error, scan_steps, groups_bytes}
use Rattle.base64.specs.GeneralPurpose.{decoded_of}
use Rattle.base64.specs.Rfc4648.{encode_symbols}
use Rattle.bytes_and_lists.specs.declared.message.Field.{Field}
use Rattle.bytes_and_lists.specs.declared.message.Message.{Message}
use Rattle.structured_fields.specs.declared.item.InnerList.{InnerList}
use Rattle.structured_fields.specs.Reading.{key_at, decimal_at, unsigned_at, number_at, string_rest, decoded, binary_rest, bare_at, value_of, parameter_at, params_from, params_at, item_at, items_from, items_at, inner_at, member_at, entry_value_at, entry_at, next_at, members_from, members_of, dictionary_of}
use Rattle.message_signature.specs.Components.{component, field_value}
use Rattle.message_signature.specs.Signed.{component_item, covered}
use Rattle.rotation_checks.specs.RotationBase.{rotation_lines, base_with, rotation_base}
use Rattle.rotation_checks.specs.SecondSignature.{is_chained}
use Rattle.key_rotation.specs.SignedRotation.{member_item, rotation_input}

abbrev field : List ℕ → List ℕ → Field
field name value = record { name = name; value = value }

abbrev request : Message
request = record {
  method = codes "POST";
  target = codes "/token";
  fields = field (codes "authorization") (codes "GNAP AAAAAAAAAAIAAAAAAAAAAAAAAAAAAAAA")
      ∷ field (codes "content-digest") (codes "sha-256=:pFiaIJZh9GLNTAoqcW+jrnQfACwNB4pusYF/q4pSj7I=:")
      ∷ field (codes "signature-input")
      (codes "sig1=(\"@method\" \"@target-uri\" \"content-digest\" \"authorization\");created=1002;keyid=\"c1\";nonce=\"n7\";tag=\"gnap\"")
      ∷ field (codes "signature") (codes "sig1=:QPMXrzu1re75AzYLirPUSq1++Kh5BuzFopiM093gt5k=:") ∷ [];
  body = codes "{\"key\":\"c2\"}";
  last = false;
}

pub second_base : rotation_base request (codes "https://as.example") (rotation_input request (codes "c2") 1002) ≡ Some (
    codes "\"@method\": POST\n\"@target-uri\": https://as.example/token\n\"content-digest\": sha-256=:pFiaIJZh9GLNTAoqcW+jrnQfACwNB4pusYF/q4pSj7I=:\n\"authorization\": GNAP AAAAAAAAAAIAAAAAAAAAAAAAAAAAAAAA\n\"signature\";key=\"sig1\": :QPMXrzu1re75AzYLirPUSq1++Kh5BuzFopiM093gt5k=:\n\"signature-input\";key=\"sig1\": (\"@method\" \"@target-uri\" \"content-digest\" \"authorization\");created=1002;keyid=\"c1\";nonce=\"n7\";tag=\"gnap\"\n\"@signature-params\": (\"@method\" \"@target-uri\" \"content-digest\" \"authorization\" \"signature\";key=\"sig1\" \"signature-input\";key=\"sig1\");created=1002;keyid=\"c2\";tag=\"gnap-rotate\"")
unfolding base_with rotation_lines component field_value digits key_at decimal_at unsigned_at number_at string_rest decoded binary_rest bare_at value_of
    parameter_at params_from params_at item_at items_from items_at inner_at member_at entry_value_at entry_at next_at members_from members_of dictionary_of
    decoded_of groups_error scan_steps groups_bytes encode_symbols
second_base = refl

-- ---- what covers the first signature

pub covers_first : is_chained (codes "sig1") (rotation_input request (codes "c2") 1002) ≡ true
unfolding component field_value
covers_first = refl

pub covers_another : is_chained (codes "a") (rotation_input request (codes "c2") 1002) ≡ false
unfolding component field_value
covers_another = refl

abbrev without_bytes : InnerList
without_bytes = record { items = map component_item (covered request) ++ member_item (codes "signature-input") ∷ []; params = [] }

pub bytes_left_out : is_chained (codes "sig1") without_bytes ≡ false
unfolding component field_value
bytes_left_out = refl

abbrev whole_fields : InnerList
whole_fields = record {
  items = map component_item (covered request) ++ component_item (codes "signature") ∷ component_item (codes "signature-input")
      ∷ [];
  params = [];
}

pub whole_fields_alone : is_chained (codes "sig1") whole_fields ≡ false
unfolding component field_value
whole_fields_alone = refl
