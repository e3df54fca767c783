-- Errors as JSON (RFC 9635, section 3.6).
use Rattle.std.specs.Prelude.{ℕ, List, [], ◌∷◌, codes, Option, Some}
use Rattle.serde_json.specs.Data.{Data, string}
use Rattle.json_objects.specs.Objects.{object_of}
use Rattle.gnap_model.specs.declared.objects.ErrorCode.{ErrorCode}
use Rattle.gnap_model.specs.Codes.{error_text}

abbrev pub code_fields : ErrorCode → List (List ℕ × Option Data)
code_fields code = (codes "code", Some (string (error_text code))) ∷ []

abbrev pub error_fields : ErrorCode → List (List ℕ × Option Data)
error_fields code = (codes "error", Some (object_of (code_fields code))) ∷ []
