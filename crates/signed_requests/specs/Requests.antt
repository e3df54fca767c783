-- Requests as a client or a resource server sends them (RFC 9112, sections 2 to 6; RFC 9635, sections 7.2 and 7.3.1).
-- Bytes stand by their numbers: 45 `-`.
use Rattle.std.specs.Prelude.{ℕ, ◌-◌, ◌==◌, ◌&&◌, Bool, true, if◌then◌else◌, List, [], ◌∷◌, ◌++◌, length, Option, Some, None, option_map, codes, decimal}
use Rattle.std.specs.List.{flat_map}
use Rattle.bytes_and_lists.specs.declared.message.Field.{Field}
use Rattle.bytes_and_lists.specs.declared.message.Message.{Message}
use Rattle.structured_fields.specs.Letters.{is_lower}
use Rattle.message_signature.specs.Components.{authority_of}
use Rattle.message_signature.specs.Signed.{field, signed, signed_marked}
use Rattle.signed_requests.specs.declared.unsigned.UnsignedRequest.{UnsignedRequest}
use Rattle.signed_requests.specs.declared.unsigned.Scheme.{Scheme}
use Rattle.signed_requests.specs.declared.unsigned.Scheme.TheVariants.{Gnap, Bearer}

-- ---- the message that is signed

abbrev pub scheme_text : Scheme → List ℕ
scheme_text Gnap = codes "GNAP "
scheme_text Bearer = codes "Bearer "

-- `Authorization`, where a token is presented
abbrev pub authorization_fields : Option (Scheme × List ℕ) → List Field
authorization_fields None = []
authorization_fields (Some presented) = field (codes "authorization") (scheme_text presented.0 ++ presented.1) ∷ []

-- `Content-Type`, where there is a body
abbrev pub type_fields : List ℕ → List Field
type_fields [] = []
type_fields (byte ∷ body) = field (codes "content-type") (codes "application/json") ∷ []

-- the message before it is signed, to the server with this base
abbrev pub unsigned_message : List ℕ → UnsignedRequest → Message
unsigned_message base request = record {
  method = request.method;
  target = request.target;
  fields = field (codes "host") (authority_of base) ∷ field (codes "connection") (codes "close")
      ∷ (authorization_fields request.presented ++ type_fields request.body);
  body = request.body;
  last = true;
}

-- ---- its bytes

-- a name with a capital letter at its beginning and behind each `-`
abbrev pub spelt_from : Bool → List ℕ → List ℕ
spelt_from begins [] = []
spelt_from begins (c ∷ name) = (if begins && is_lower c then c - 32 else c) ∷ spelt_from (c == 45) name

unfoldable pub spelt : List ℕ → List ℕ
spelt name = spelt_from true name

abbrev pub spelt_line : Field → List ℕ
spelt_line f = spelt f.name ++ (codes ": " ++ (f.value ++ codes "\r\n"))

-- `Content-Length`, where there is a body
abbrev pub body_length_line : List ℕ → List ℕ
body_length_line [] = []
body_length_line (byte ∷ body) = codes "Content-Length: " ++ (decimal (length (byte ∷ body)) ++ codes "\r\n")

-- the request line, the field lines, an empty line and the body
abbrev pub request_bytes : Message → List ℕ
request_bytes m = m.method ++ (codes " " ++ (m.target ++ (codes " HTTP/1.1\r\n"
    ++ (flat_map spelt_line m.fields ++ (body_length_line m.body ++ (codes "\r\n" ++ m.body))))))

-- The bytes of a request to the server with this base, signed under this id and secret at this moment with the tag `gnap`. They are always there
-- (`signature_laws::signing`).
unfoldable pub signed_request : List ℕ → List ℕ → List ℕ → ℕ → UnsignedRequest → Option (List ℕ)
signed_request base id secret now request = option_map request_bytes (signed (unsigned_message base request) base id secret now (codes "gnap"))

-- The same, with this nonce in the signature.
unfoldable pub marked_request : List ℕ → List ℕ → List ℕ → ℕ → List ℕ → UnsignedRequest → Option (List ℕ)
marked_request base id secret now nonce request = option_map request_bytes
    (signed_marked (unsigned_message base request) base id secret now nonce (codes "gnap"))
