-- What the body of a request is: one JSON object (RFC 8259), in which each number is whole.
use Rattle.std.specs.Prelude.{◌≡◌, ◌≤◌, ℕ, List, false, Option, Some, None, Result, Ok, Err, if◌then◌else◌, is_some}
use Rattle.std.specs.Str.{is_utf8}
use Rattle.serde_json.specs.Data.{Data, Items, no_items, item, depth}
use Rattle.serde_json.specs.Read.{read, max_depth}
use Rattle.serde_json.specs.Find.{as_object}
use Rattle.serde_json.specs.Written.{has_float}
use Rattle.json_objects.specs.declared.body.BodyFault.{BodyFault}
use Rattle.json_objects.specs.declared.body.BodyFault.TheVariants as faults

-- A value as a request's body may have it: each number is a whole one from -2^63 to 2^64 - 1, and it has at most 127 levels.
pub record IsBody (d : Data) : Type 0 where
  pub whole : has_float d ≡ false
  pub shallow : depth d ≤ max_depth

abbrev pub AreBodies : Items → Type 0
AreBodies no_items = Unit {0}
AreBodies (item d ds) = IsBody d × AreBodies ds

abbrev pub checked_body : Option Data → Result Data BodyFault
checked_body None = Err faults.NotAnObject
checked_body (Some d) = if is_some (as_object d) then (if has_float d then Err faults.Number else Ok d) else Err faults.NotAnObject

-- the object that the bytes are
abbrev pub body_of : List ℕ → Result Data BodyFault
body_of text = if is_utf8 text then checked_body (read text) else Err faults.NotAnObject
