-- The replies to an introspection as JSON (RFC 9767, section 3.3).
use Rattle.std.specs.Prelude.{ℕ, Bool, true, false, List, [], ◌∷◌, codes, Option, Some, None, if◌then◌else◌}
use Rattle.serde_json.specs.Data.{Data, boolean, number, unsigned, string}
use Rattle.gnap_model.specs.declared.rights.Right.{Right}
use Rattle.access_rights.specs.Printing.{rights_data}
use Rattle.gnap_replies.specs.Endpoints.{grant_endpoint}
use Rattle.gnap_replies.specs.Tokens.{flags_data}

-- the key of a token that isn't a bearer token
abbrev pub key_data : Bool → List ℕ → Option Data
key_data bearer instance = if bearer then None else Some (string instance)

abbrev pub active_fields : List ℕ → List Right → ℕ → ℕ → List ℕ → Bool → List (List ℕ × Option Data)
active_fields base access iat exp instance bearer =
    (codes "access", Some (rights_data access)) ∷
    (codes "active", Some (boolean true)) ∷
    (codes "exp", Some (number (unsigned exp))) ∷
    (codes "flags", flags_data bearer) ∷
    (codes "iat", Some (number (unsigned iat))) ∷
    (codes "instance_id", Some (string instance)) ∷
    (codes "iss", Some (string (grant_endpoint base))) ∷
    (codes "key", key_data bearer instance) ∷ []

abbrev pub inactive_fields : List (List ℕ × Option Data)
inactive_fields = (codes "active", Some (boolean false)) ∷ []
