-- How many bytes compact JSON texts have.
use Rattle.std.specs.Prelude.{ℕ, ◌+◌, ◌-◌, ◌^◌, ◌==◌, min, if◌then◌else◌, List, [], ◌∷◌, length, Option, Some, None}
pub use Rattle.json.specs.Print.{quoted}
use Rattle.serde_json.specs.Data.{Data, Items, no_items, item, Members, no_members, member}
use Rattle.serde_json.specs.Written.{compact_text}

-- a number of bytes as 64 bits tell it: greater ones are told as 2^64 - 1
abbrev pub capped : ℕ → ℕ
capped n = min n (2 ^ 64 - 1)

-- an array or an object, where its parts have so many bytes, each with the comma or the bracket after it
abbrev pub enclosed_size : ℕ → ℕ
enclosed_size parts = if parts == 0 then 2 else parts + 1

-- the items as they stand in an array, each with the comma or the bracket after it
abbrev pub items_size : Items → ℕ
items_size no_items = 0
items_size (item d ds) = length (compact_text d) + 1 + items_size ds

-- a member as it stands in an object: its name, a colon, its value, and the comma or the brace after it
abbrev pub member_size : List ℕ → Data → ℕ
member_size name d = length (quoted name) + 1 + length (compact_text d) + 1

abbrev pub members_size : Members → ℕ
members_size no_members = 0
members_size (member k d ms) = member_size k d + members_size ms

-- a member, where it is there
abbrev pub field_size : List ℕ → Option Data → ℕ
field_size name None = 0
field_size name (Some d) = member_size name d

abbrev pub fields_size : List (List ℕ × Option Data) → ℕ
fields_size [] = 0
fields_size (f ∷ fs) = field_size f.0 f.1 + fields_size fs
