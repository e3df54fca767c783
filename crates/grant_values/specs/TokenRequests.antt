-- Token requests as JSON values (RFC 9635, section 2.1).
use Rattle.std.specs.Prelude.{ℕ, Bool, true, false, List, [], ◌∷◌, map, codes, Option, Some, None, option_map, if◌then◌else◌}
use Rattle.serde_json.specs.Data.{Data, string, array}
use Rattle.json_objects.specs.Objects.{items, object_of, texts_data}
use Rattle.gnap_model.specs.declared.objects.Ask.{Ask}
use Rattle.access_rights.specs.Printing.{rights_data}

-- `flags`: `bearer` alone, where it is asked for
abbrev pub asked_flags : Bool → Option Data
asked_flags bearer = if bearer then Some (texts_data (codes "bearer" ∷ [])) else None

abbrev pub token_request_fields : Ask → List (List ℕ × Option Data)
token_request_fields ask =
    (codes "access", Some (rights_data ask.rights)) ∷
    (codes "flags", asked_flags ask.bearer) ∷
    (codes "label", option_map string ask.label) ∷ []

unfoldable pub token_request_data : Ask → Data
token_request_data ask = object_of (token_request_fields ask)

abbrev pub token_request_array : List Ask → Data
token_request_array asks = array (items (map token_request_data asks))

-- the token request that stands outside an array, else the array of them; nothing where there is none
abbrev pub token_requests_data : Bool → List Ask → Option Data
token_requests_data single [] = None
token_requests_data true (ask ∷ []) = Some (token_request_data ask)
token_requests_data true (ask ∷ other ∷ asks) = Some (token_request_array (ask ∷ other ∷ asks))
token_requests_data false (ask ∷ asks) = Some (token_request_array (ask ∷ asks))
