-- Signature bases, computed: of a grant request, and of the example of RFC 9421, appendix B.2.5.
use Rattle.std.proofs.Common.{◌≡◌, ℕ, List, [], ◌∷◌, Option, Some, None, codes, refl, pos, false}
use Rattle.std.specs.Fmt.{digits}
use Rattle.bytes_and_lists.specs.declared.message.Field.{Field}
use Rattle.bytes_and_lists.specs.declared.message.Message.{Message}
use Rattle.structured_fields.specs.declared.bare.Bare.TheVariants.{Integer, Str}
use Rattle.structured_fields.specs.declared.item.InnerList.{InnerList}
use Rattle.message_signature.specs.Components.{component, field_value}
use Rattle.message_signature.specs.Base.{base_lines, signature_base}
use Rattle.message_signature.specs.Signed.{component_item, params_of, signature_input}

abbrev field : List ℕ → List ℕ → Field
field name value = record { name = name; value = value }

-- ---- a grant request

abbrev grant_request : Message
grant_request = record {
  method = codes "POST";
  target = codes "/gnap";
  fields = field (codes "content-digest") (codes "sha-256=:X48E9qOokqqrvdts8nOJRJN3OWDUoyWxBf7kbu9DBPE=:") ∷ [];
  body = codes "{\"hello\": \"world\"}";
  last = false;
}

pub grant_request_base : signature_base grant_request (codes "https://as.example")
    (signature_input grant_request (params_of (codes "c1") 1000 None (codes "gnap"))) ≡ Some (
    codes "\"@method\": POST\n\"@target-uri\": https://as.example/gnap\n\"content-digest\": sha-256=:X48E9qOokqqrvdts8nOJRJN3OWDUoyWxBf7kbu9DBPE=:\n\"@signature-params\": (\"@method\" \"@target-uri\" \"content-digest\");created=1000;keyid=\"c1\";tag=\"gnap\"")
unfolding signature_base base_lines component field_value digits
grant_request_base = refl

-- ---- the message of RFC 9421, appendix B.2

abbrev request : Message
request = record {
  method = codes "POST";
  target = codes "/foo?param=Value&Pet=dog";
  fields = field (codes "host") (codes "example.com")
      ∷ field (codes "date") (codes "Tue, 20 Apr 2021 02:07:55 GMT")
      ∷ field (codes "content-type") (codes "application/json")
      ∷ field (codes "content-digest") (codes "sha-512=:WZDPaVn/7XgHaAy8pmojAkGWoRx2UFChF41A2svX+TaPm+AbwAgBWnrIiYllu7BNNyealdVLvRwEmTHWXvJwew==:")
      ∷ field (codes "content-length") (codes "18") ∷ [];
  body = codes "{\"hello\": \"world\"}";
  last = false;
}

abbrev list : InnerList
list = record {
  items = component_item (codes "date") ∷ component_item (codes "@authority") ∷ component_item (codes "content-type") ∷ [];
  params = (codes "created", Integer (pos 1618884473)) ∷ (codes "keyid", Str (codes "test-shared-secret")) ∷ [];
}

pub hmac_example_base : signature_base request (codes "https://example.com") list ≡ Some (
    codes "\"date\": Tue, 20 Apr 2021 02:07:55 GMT\n\"@authority\": example.com\n\"content-type\": application/json\n\"@signature-params\": (\"date\" \"@authority\" \"content-type\");created=1618884473;keyid=\"test-shared-secret\"")
unfolding signature_base base_lines component field_value digits
hmac_example_base = refl

-- ---- components of sections 2.1 and 2.2

abbrev of_request : List ℕ → Option (List ℕ)
of_request name = component request (codes "https://example.com") name

pub scheme_is : of_request (codes "@scheme") ≡ Some (codes "https")
unfolding component
scheme_is = refl

pub path_is : of_request (codes "@path") ≡ Some (codes "/foo")
unfolding component
path_is = refl

pub query_is : of_request (codes "@query") ≡ Some (codes "?param=Value&Pet=dog")
unfolding component
query_is = refl

pub no_query_is : component grant_request (codes "https://as.example") (codes "@query") ≡ Some (codes "?")
unfolding component
no_query_is = refl

pub lines_are_joined : field_value (codes "cache-control")
    (field (codes "cache-control") (codes "max-age=60") ∷ field (codes "date") (codes "x") ∷ field (codes "cache-control") (codes "\t   must-revalidate ") ∷ [])
    ≡ Some (codes "max-age=60, must-revalidate")
unfolding field_value
lines_are_joined = refl

pub no_line : of_request (codes "x-absent") ≡ None
unfolding component field_value
no_line = refl
