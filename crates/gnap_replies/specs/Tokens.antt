-- Access tokens as JSON (RFC 9635, section 3.2).
use Rattle.std.specs.Prelude.{ℕ, Bool, true, false, List, [], ◌∷◌, map, codes, Option, Some, None, option_map, if◌then◌else◌}
use Rattle.serde_json.specs.Data.{Data, number, unsigned, string, array, item, no_items}
use Rattle.json_objects.specs.Objects.{items, object_of}
use Rattle.gnap_model.specs.declared.calls.TokenOut.{TokenOut}
use Rattle.access_rights.specs.Printing.{rights_data}
use Rattle.gnap_replies.specs.Endpoints.{management_endpoint}

-- `["bearer"]`, for a bearer token alone
abbrev pub flags_data : Bool → Option Data
flags_data bearer = if bearer then Some (array (item (string (codes "bearer")) no_items)) else None

-- a token of which the value alone is told
abbrev pub bare_token_fields : List ℕ → List (List ℕ × Option Data)
bare_token_fields value = (codes "value", Some (string value)) ∷ []

-- how the token is rotated and revoked (RFC 9635, section 6)
abbrev pub manage_fields : List ℕ → List ℕ → List (List ℕ × Option Data)
manage_fields base manage =
    (codes "access_token", Some (object_of (bare_token_fields manage))) ∷
    (codes "uri", Some (string (management_endpoint base))) ∷ []

abbrev pub token_fields : List ℕ → TokenOut → List (List ℕ × Option Data)
token_fields base t =
    (codes "access", Some (rights_data t.rights)) ∷
    (codes "expires_in", Some (number (unsigned t.expires_in))) ∷
    (codes "flags", flags_data t.bearer) ∷
    (codes "label", option_map string t.label) ∷
    (codes "manage", Some (object_of (manage_fields base t.manage))) ∷
    (codes "value", Some (string t.value)) ∷ []

unfoldable pub token_data : List ℕ → TokenOut → Data
token_data base t = object_of (token_fields base t)

-- the one token that was asked for outside an array, or the array of the tokens; nothing where there is none
abbrev pub tokens_data : List ℕ → Bool → List TokenOut → Option Data
tokens_data base single [] = None
tokens_data base true (t ∷ ts) = Some (token_data base t)
tokens_data base false (t ∷ ts) = Some (array (items (map (token_data base) (t ∷ ts))))
