-- Grant requests and modifications as JSON values (RFC 9635, sections 2 and 5.3), and grant requests that present a token (RFC 9767, section 4).
use Rattle.std.specs.Prelude.{ℕ, Bool, List, [], ◌∷◌, codes, Option, Some, None, option_map, if◌then◌else◌}
use Rattle.serde_json.specs.Data.{Data, string}
use Rattle.serde_json.specs.Written.{compact_text}
use Rattle.json_objects.specs.Objects.{object_of, texts_data}
use Rattle.gnap_model.specs.declared.objects.GrantRequest.{GrantRequest}
use Rattle.grant_values.specs.TokenRequests.{token_requests_data}
use Rattle.grant_values.specs.Interactions.{modes_data}

abbrev pub subject_request_fields : List (List ℕ × Option Data)
subject_request_fields = (codes "sub_id_formats", Some (texts_data (codes "opaque" ∷ []))) ∷ []

-- `subject`, where an opaque identifier of the user is asked for (RFC 9635, section 2.2)
abbrev pub subject_request_data : Bool → Option Data
subject_request_data subject = if subject then Some (object_of subject_request_fields) else None

abbrev pub key_object_fields : List ℕ → List (List ℕ × Option Data)
key_object_fields id = (codes "key", Some (string id)) ∷ []

-- `client`: the id of the client's key, or an object that has it (RFC 9635, section 2.3)
abbrev pub client_data : Bool → List ℕ → Data
client_data by_object id = if by_object then object_of (key_object_fields id) else string id

-- `existing_access_token` is the token from which another one is to be derived, where there is one.
abbrev pub request_fields : Option (List ℕ) → GrantRequest → List (List ℕ × Option Data)
request_fields existing request =
    (codes "access_token", token_requests_data request.single request.asks) ∷
    (codes "client", option_map (client_data request.by_object) request.client) ∷
    (codes "existing_access_token", option_map string existing) ∷
    (codes "interact", option_map modes_data request.modes) ∷
    (codes "subject", subject_request_data request.subject) ∷
    (codes "user", option_map string request.user) ∷ []

-- the object that a grant request is which presents this token, where there is one
unfoldable pub request_data : Option (List ℕ) → GrantRequest → Data
request_data existing request = object_of (request_fields existing request)

-- its compact text
abbrev pub request_text : Option (List ℕ) → GrantRequest → List ℕ
request_text existing request = compact_text (request_data existing request)

-- the same of a request that presents none, and of a modification
abbrev pub grant_data : GrantRequest → Data
grant_data = request_data None

abbrev pub grant_text : GrantRequest → List ℕ
grant_text = request_text None
