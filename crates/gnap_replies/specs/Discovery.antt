-- What the authorization server says of itself (RFC 9635, section 9; RFC 9767, section 3.1).
use Rattle.std.specs.Prelude.{ℕ, true, List, [], ◌∷◌, codes, Option, Some}
use Rattle.serde_json.specs.Data.{Data, boolean, string}
use Rattle.json_objects.specs.Objects.{object_of, texts_data}
use Rattle.gnap_replies.specs.Endpoints.{grant_endpoint, introspection_endpoint, registration_endpoint}

abbrev pub key_proofs : List (List ℕ)
key_proofs = codes "httpsig" ∷ []

-- how a client may bring the user (RFC 9635, section 2.5.1)
abbrev pub start_modes : List (List ℕ)
start_modes = codes "redirect" ∷ codes "user_code" ∷ codes "user_code_uri" ∷ []

-- how it may be told that the interaction is over (RFC 9635, section 2.5.2)
abbrev pub finish_methods : List (List ℕ)
finish_methods = codes "redirect" ∷ codes "push" ∷ []

-- how it may be told who the user is (RFC 9493, section 3.2.4)
abbrev pub subject_formats : List (List ℕ)
subject_formats = codes "opaque" ∷ []

-- to a client
abbrev pub client_discovery_fields : List ℕ → List (List ℕ × Option Data)
client_discovery_fields base =
    (codes "grant_request_endpoint", Some (string (grant_endpoint base))) ∷
    (codes "interaction_finish_methods_supported", Some (texts_data finish_methods)) ∷
    (codes "interaction_start_modes_supported", Some (texts_data start_modes)) ∷
    (codes "key_proofs_supported", Some (texts_data key_proofs)) ∷
    (codes "key_rotation_supported", Some (boolean true)) ∷
    (codes "sub_id_formats_supported", Some (texts_data subject_formats)) ∷ []

unfoldable pub client_discovery : List ℕ → Data
client_discovery base = object_of (client_discovery_fields base)

-- to a resource server
abbrev pub server_discovery_fields : List ℕ → List (List ℕ × Option Data)
server_discovery_fields base =
    (codes "grant_request_endpoint", Some (string (grant_endpoint base))) ∷
    (codes "introspection_endpoint", Some (string (introspection_endpoint base))) ∷
    (codes "key_proofs_supported", Some (texts_data key_proofs)) ∷
    (codes "resource_registration_endpoint", Some (string (registration_endpoint base))) ∷ []

unfoldable pub server_discovery : List ℕ → Data
server_discovery base = object_of (server_discovery_fields base)
