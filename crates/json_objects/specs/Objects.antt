-- JSON objects and arrays as they are made.
use Rattle.std.specs.Prelude.{ℕ, List, [], ◌∷◌, map, Option, Some, None}
use Rattle.serde_json.specs.Data.{Data, string, array, object, Items, no_items, item, Members, no_members, put}

-- the members with one more, where there is a value; each stands in the ascending byte order of the names
abbrev pub with_member : List ℕ → Option Data → Members → Members
with_member name None ms = ms
with_member name (Some d) ms = put name d ms

-- the members with these fields, where they are there
abbrev pub members_onto : Members → List (List ℕ × Option Data) → Members
members_onto ms [] = ms
members_onto ms (f ∷ fs) = with_member f.0 f.1 (members_onto ms fs)

-- the object of the fields that are there
abbrev pub object_of : List (List ℕ × Option Data) → Data
object_of fs = object (members_onto no_members fs)

abbrev pub items : List Data → Items
items [] = no_items
items (d ∷ ds) = item d (items ds)

-- the array of the texts
abbrev pub texts_data : List (List ℕ) → Data
texts_data ss = array (items (map string ss))
