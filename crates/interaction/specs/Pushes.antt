-- The body of a finish that is pushed (RFC 9635, section 4.2.2).
use Rattle.std.specs.Prelude.{ℕ, List, [], ◌∷◌, codes, Option, Some}
use Rattle.serde_json.specs.Data.{Data, string}
use Rattle.serde_json.specs.Written.{compact_text}
use Rattle.json_objects.specs.Objects.{object_of}

abbrev pub push_fields : List ℕ → List ℕ → List (List ℕ × Option Data)
push_fields hash reference = (codes "hash", Some (string hash)) ∷ (codes "interact_ref", Some (string reference)) ∷ []

unfoldable pub push_data : List ℕ → List ℕ → Data
push_data hash reference = object_of (push_fields hash reference)

-- the compact text of the object with the two texts
abbrev pub push_body : List ℕ → List ℕ → List ℕ
push_body hash reference = compact_text (push_data hash reference)
