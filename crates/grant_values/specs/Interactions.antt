-- The ways to interact with the user that a client offers, as JSON values (RFC 9635, section 2.5).
use Rattle.std.specs.Prelude.{ℕ, Bool, List, [], ◌∷◌, ◌++◌, codes, Option, Some, None, option_map, if◌then◌else◌}
use Rattle.serde_json.specs.Data.{Data, string}
use Rattle.json_objects.specs.Objects.{object_of, texts_data}
use Rattle.gnap_model.specs.declared.objects.Finish.{Finish}
use Rattle.gnap_model.specs.declared.objects.Modes.{Modes}

abbrev pub finish_method : Bool → List ℕ
finish_method push = if push then codes "push" else codes "redirect"

-- `hash_method`, where it isn't SHA-256
abbrev pub hash_method_data : Bool → Option Data
hash_method_data long = if long then Some (string (codes "sha-512")) else None

-- how the client is told of the end (RFC 9635, section 2.5.2)
abbrev pub finish_fields : Finish → List (List ℕ × Option Data)
finish_fields finish =
    (codes "hash_method", hash_method_data finish.long) ∷
    (codes "method", Some (string (finish_method finish.push))) ∷
    (codes "nonce", Some (string finish.nonce)) ∷
    (codes "uri", Some (string finish.uri)) ∷ []

unfoldable pub finish_data : Finish → Data
finish_data finish = object_of (finish_fields finish)

abbrev pub listed_if : Bool → List ℕ → List (List ℕ)
listed_if offered mode = if offered then mode ∷ [] else []

-- the offered ways to begin (RFC 9635, section 2.5.1)
abbrev pub starts_of : Modes → List (List ℕ)
starts_of modes = listed_if modes.redirect (codes "redirect") ++ listed_if modes.user_code (codes "user_code")
    ++ listed_if modes.user_code_uri (codes "user_code_uri")

abbrev pub modes_fields : Modes → List (List ℕ × Option Data)
modes_fields modes =
    (codes "finish", option_map finish_data modes.finish) ∷
    (codes "start", Some (texts_data (starts_of modes))) ∷ []

unfoldable pub modes_data : Modes → Data
modes_data modes = object_of (modes_fields modes)
