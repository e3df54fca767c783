-- What a server reads of the bytes of a signed request (RFC 9112; RFC 9635, section 7.3.1).
use Rattle.std.specs.Prelude.{◌≡◌, ℕ, ◌+◌, ◌<◌, ◌≤◌, ◌^◌, true, List, [], ◌∷◌, length, Option, Some, None, codes, decimal}
use Rattle.std.specs.List.{list_all}
use Rattle.bytes_and_lists.specs.declared.message.Field.{Field}
use Rattle.bytes_and_lists.specs.declared.message.Message.{Message}
use Rattle.structured_fields.specs.Letters.{is_string_byte}
use Rattle.message_signature.specs.Components.{authority_of}
use Rattle.message_signature.specs.Marks.{is_nonce}
use Rattle.message_signature.specs.Signed.{field, with_fields, params_of, signed_under}
use Rattle.http_edge.specs.Limits.{head_limit, body_limit}
use Rattle.http_edge.specs.Streams.{IsMessage}
use Rattle.signed_requests.specs.declared.unsigned.UnsignedRequest.{UnsignedRequest}
use Rattle.signed_requests.specs.declared.unsigned.Scheme.{Scheme}
use Rattle.signed_requests.specs.Forms.{is_method, is_target, is_visible}
use Rattle.signed_requests.specs.Requests.{unsigned_message, signed_request, marked_request}

-- a token that is presented has one byte or more, all of them visible characters
abbrev pub HasVisibleToken : Option (Scheme × List ℕ) → Type 0
HasVisibleToken None = Unit {0}
HasVisibleToken (Some presented) = (0 < length presented.1) × (list_all is_visible presented.1 ≡ true)

-- what it takes that a request to the server with this base, signed under this id at this moment, can be read
pub record CanBeRead (base id : List ℕ) (now : ℕ) (request : UnsignedRequest) : Type 0 where
  pub method : is_method request.method ≡ true
  pub target : is_target request.target ≡ true
  pub authority : list_all is_visible (authority_of base) ≡ true
  pub token : HasVisibleToken request.presented
  pub body : length request.body ≤ body_limit
  pub key : list_all is_string_byte id ≡ true
  pub moment : now < 10 ^ 15

-- `Content-Length`, where there is a body
abbrev pub length_fields : List ℕ → List Field
length_fields [] = []
length_fields (byte ∷ body) = field (codes "content-length") (decimal (length (byte ∷ body))) ∷ []

-- The bytes of a request are those of a message that was signed. Where their head is no longer than one that is read, they are read as this message, with
-- its `Content-Length` behind its fields, and nothing is left.
pub record IsReadAsSigned (base id secret : List ℕ) (now : ℕ) (nonce : Option (List ℕ)) (request : UnsignedRequest) (bytes : List ℕ) : Type 0 where
  pub signed : Message
  pub signs : signed_under (unsigned_message base request) base (params_of id now nonce (codes "gnap")) secret ≡ Some signed
  pub reads : length bytes ≤ head_limit + length request.body → IsMessage bytes (with_fields (length_fields request.body) signed) []

-- a signed request is read as what was signed
abbrev pub SignedRequestsReadBack : Type 0
SignedRequestsReadBack = (base id secret : List ℕ) (now : ℕ) (request : UnsignedRequest) (bytes : List ℕ)
    → CanBeRead base id now request → signed_request base id secret now request ≡ Some bytes → IsReadAsSigned base id secret now None request bytes

-- so is one with a nonce in its signature
abbrev pub MarkedRequestsReadBack : Type 0
MarkedRequestsReadBack = (base id secret : List ℕ) (now : ℕ) (nonce : List ℕ) (request : UnsignedRequest) (bytes : List ℕ)
    → CanBeRead base id now request → is_nonce nonce ≡ true → marked_request base id secret now nonce request ≡ Some bytes
    → IsReadAsSigned base id secret now (Some nonce) request bytes
