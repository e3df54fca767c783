-- Rights as JSON values (RFC 9635, section 8).
use Rattle.std.specs.Prelude.{ℕ, List, [], ◌∷◌, map, Option, Some, None, option_map, codes}
use Rattle.serde_json.specs.Data.{Data, string, array, object, Members, no_members}
use Rattle.serde_json.specs.Find.{as_object}
use Rattle.serde_json.specs.Read.{read}
use Rattle.gnap_model.specs.declared.rights.RightObject.{RightObject}
use Rattle.gnap_model.specs.declared.rights.Right.{Right}
use Rattle.gnap_model.specs.declared.rights.Right.TheVariants as rights
use Rattle.json_objects.specs.Objects.{members_onto, items, texts_data}

abbrev pub members_of : Option Members → Members
members_of None = no_members
members_of (Some ms) = ms

-- the members of the object that was read
abbrev pub members_read : Option Data → Members
members_read None = no_members
members_read (Some d) = members_of (as_object d)

abbrev pub right_fields : RightObject → List (List ℕ × Option Data)
right_fields r =
    (codes "type", Some (string r.kind)) ∷
    (codes "actions", option_map texts_data r.actions) ∷
    (codes "locations", option_map texts_data r.locations) ∷
    (codes "datatypes", option_map texts_data r.datatypes) ∷
    (codes "privileges", option_map texts_data r.privileges) ∷
    (codes "identifier", option_map string r.identifier) ∷ []

-- the members of a right in full: its further ones, and its own fields
unfoldable pub right_members : RightObject → Members
right_members r = members_onto (members_read (read r.further)) (right_fields r)

-- a right is its reference, or an object
abbrev pub right_data : Right → Data
right_data (rights.Reference s) = string s
right_data (rights.Object r) = object (right_members r)

-- the array of the rights
abbrev pub rights_data : List Right → Data
rights_data rs = array (items (map right_data rs))
