-- Which members an object has.
use Rattle.std.specs.Prelude.{ℕ, List, Option, Some, None, option_and_then, if◌then◌else◌}
use Rattle.std.specs.List.{list_any}
use Rattle.std.specs.Str.{bytes_eq}
use Rattle.serde_json.specs.Data.{Data, Members, no_members, member}
use Rattle.serde_json.specs.Find.{as_object}

-- the name of the first member that has none of these names
abbrev pub other_name : List (List ℕ) → Members → Option (List ℕ)
other_name names no_members = None
other_name names (member k d ms) = if list_any (bytes_eq k) names then other_name names ms else Some k

-- the same of an object; a value of another type has no members
abbrev pub other_member : List (List ℕ) → Data → Option (List ℕ)
other_member names d = option_and_then (other_name names) (as_object d)
