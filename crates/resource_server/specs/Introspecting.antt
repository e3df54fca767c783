-- The introspection of a token, as it is asked (RFC 9767, section 3.3).
use Rattle.std.specs.Prelude.{◌≡◌, ℕ, List, [], ◌∷◌, Option, Some, None, Result, codes}
use Rattle.serde_json.specs.Data.{Data, string}
use Rattle.serde_json.specs.Written.{compact_text}
use Rattle.json_objects.specs.Objects.{object_of}
use Rattle.outside.specs.Links.{LinkState, Exchanges}
use Rattle.outside.specs.declared.link.LinkFault.{LinkFault}
use Rattle.gnap_model.specs.declared.rights.Right.{Right}
use Rattle.access_rights.specs.Printing.{rights_data}
use Rattle.signed_requests.specs.declared.unsigned.UnsignedRequest.{UnsignedRequest}
use Rattle.signed_requests.specs.declared.unsigned.Scheme.{Scheme}
use Rattle.signed_requests.specs.declared.unsigned.Scheme.TheVariants.{Gnap, Bearer}
use Rattle.signed_requests.specs.Requests.{signed_request}
use Rattle.resource_server.specs.declared.setup.Route.{Route}
use Rattle.resource_server.specs.declared.setup.RsSetup.{RsSetup}

-- how the token was presented; `bearer` is this project's own
abbrev pub proof_of : Scheme → List ℕ
proof_of Gnap = codes "httpsig"
proof_of Bearer = codes "bearer"

abbrev pub introspection_fields : List ℕ → List Right → Scheme × List ℕ → List (List ℕ × Option Data)
introspection_fields id rights token =
    (codes "access", Some (rights_data rights)) ∷
    (codes "access_token", Some (string token.1)) ∷
    (codes "proof", Some (string (proof_of token.0))) ∷
    (codes "resource_server", Some (string id)) ∷ []

unfoldable pub introspection_data : List ℕ → List Right → Scheme × List ℕ → Data
introspection_data id rights token = object_of (introspection_fields id rights token)

-- the question about the token, for these rights, of the resource server with this id
abbrev pub introspection_text : List ℕ → List Right → Scheme × List ℕ → List ℕ
introspection_text id rights token = compact_text (introspection_data id rights token)

-- the question about the token, for a route's right
abbrev pub question_text : RsSetup → Route → Scheme × List ℕ → List ℕ
question_text setup route token = introspection_text setup.id (route.right ∷ []) token

-- the request with this question
abbrev pub introspection : List ℕ → UnsignedRequest
introspection text = record { method = codes "POST"; target = codes "/introspect"; presented = None; body = text }

-- its bytes, signed by the resource server at this moment
abbrev pub introspection_bytes : RsSetup → ℕ → List ℕ → Option (List ℕ)
introspection_bytes setup now text = signed_request setup.server setup.id setup.secret now (introspection text)

-- The question was signed at this moment and exchanged over a link, which counted and told this before and that after.
pub record IsAsked (setup : RsSetup) (now : ℕ) (text : List ℕ) (before after : LinkState) (reply : Result (List ℕ) LinkFault) : Type 0 where
  pub request : List ℕ
  pub signed : introspection_bytes setup now text ≡ Some request
  pub exchanged : Exchanges request before after reply
