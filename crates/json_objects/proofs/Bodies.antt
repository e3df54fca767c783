-- What bytes are, when they are the UTF-8 of a value and when they aren't.
use Rattle.std.proofs.Common.{◌≡◌, ℕ, List, Bool, true, false, cond, Some, None, Err, refl, ap}
use Rattle.std.specs.Str.{IsUtf8, is_utf8}
use Rattle.std.proofs.lemmas.Str.{IsUtf8-from_is_utf8, is_utf8-from_IsUtf8}
use Rattle.serde_json.specs.Data.{Data}
use Rattle.serde_json.specs.Read.{read}
use Rattle.json_objects.specs.declared.body.BodyFault.TheVariants as faults
use Rattle.json_objects.specs.Bodies.{checked_body, body_of}

pub body_is : (text : List ℕ) (d : Data) → IsUtf8 text × (read text ≡ Some d) → body_of text ≡ checked_body (Some d)
body_is text d h = rw (is_utf8-from_IsUtf8 text h.0) (ap checked_body h.1)

none_at : (text : List ℕ) (b : Bool) → is_utf8 text ≡ b → (IsUtf8 text → read text ≡ None)
    → cond b (checked_body (read text)) (Err faults.NotAnObject) ≡ Err faults.NotAnObject
none_at text true e h = ap checked_body (h (IsUtf8-from_is_utf8 text e))
none_at text false e h = refl

pub body_is_none : (text : List ℕ) → (IsUtf8 text → read text ≡ None) → body_of text ≡ Err faults.NotAnObject
body_is_none text h = none_at text (is_utf8 text) refl h
