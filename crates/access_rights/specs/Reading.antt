-- What a JSON value reads as, as rights (RFC 9635, section 8).
use Rattle.std.specs.Prelude.{ℕ, ◌*◌, ◌==◌, List, length, Option, Some, None, Result, Ok, Err, nat_lt, if◌then◌else◌, codes}
use Rattle.serde_json.specs.Data.{Data, object, Members, no_members, member}
use Rattle.serde_json.specs.Find.{get, as_str, as_array, as_object}
use Rattle.serde_json.specs.Written.{compact_text}
use Rattle.json_objects.specs.Reading.{◌>>=◌, or_fault, each}
use Rattle.gnap_model.specs.declared.rights.RightObject.{RightObject}
use Rattle.gnap_model.specs.declared.rights.Right.{Right}
use Rattle.gnap_model.specs.declared.rights.Right.TheVariants as rights
use Rattle.access_rights.specs.declared.reading.RightsFault.{RightsFault}
use Rattle.access_rights.specs.declared.reading.RightsFault.TheVariants as faults
use Rattle.access_rights.specs.Fits.{is_own}

-- any string
abbrev pub any_text : Data → Result (List ℕ) RightsFault
any_text d = or_fault faults.Wrong (as_str d)

-- a text of 1 to 256 bytes
abbrev pub sized : List ℕ → Result (List ℕ) RightsFault
sized s = if length s == 0 then Err faults.Wrong else (if nat_lt 256 (length s) then Err faults.TooMany else Ok s)

-- ---- a right in full

-- `type`: 1 to 256 bytes, required
unfoldable pub type_of : Data → Result (List ℕ) RightsFault
type_of d = or_fault faults.Wrong (get (codes "type") d) >>= any_text >>= sized

-- 1 to 16 values
abbrev pub counted : List (List ℕ) → Result (List (List ℕ)) RightsFault
counted ss = if length ss == 0 then Err faults.Wrong else (if nat_lt 16 (length ss) then Err faults.TooMany else Ok ss)

abbrev pub dimension_in : Option Data → Result (Option (List (List ℕ))) RightsFault
dimension_in None = Ok None
dimension_in (Some d) = or_fault faults.Wrong (as_array d) >>= each any_text >>= counted >>= λ ss. Ok (Some ss)

-- a dimension, as `actions`: an array of 1 to 16 strings, where it is there
unfoldable pub dimension_of : List ℕ → Data → Result (Option (List (List ℕ))) RightsFault
dimension_of name d = dimension_in (get name d)

abbrev pub identifier_in : Option Data → Result (Option (List ℕ)) RightsFault
identifier_in None = Ok None
identifier_in (Some d) = any_text d >>= λ s. Ok (Some s)

-- `identifier`: a string, where it is there
unfoldable pub identifier_of : Data → Result (Option (List ℕ)) RightsFault
identifier_of d = identifier_in (get (codes "identifier") d)

-- all other members
abbrev pub others : Members → Members
others no_members = no_members
others (member k d ms) = if is_own k then others ms else member k d (others ms)

-- the compact text of the object of all other members
abbrev pub further_of : Members → List ℕ
further_of ms = compact_text (object (others ms))

-- the values of a dimension; an absent one counts as one
abbrev pub extent : Option (List (List ℕ)) → ℕ
extent None = 1
extent (Some ss) = length ss

-- how many choices of an action, a location, a datatype and a privilege the right has
abbrev pub atom_count : RightObject → ℕ
atom_count r = extent r.actions * extent r.locations * extent r.datatypes * extent r.privileges

-- at most 1,024 of them
abbrev pub few_atoms : RightObject → Result RightObject RightsFault
few_atoms r = if nat_lt 1024 (atom_count r) then Err faults.TooMany else Ok r

unfoldable pub right_object_of : Data → Members → Result RightObject RightsFault
right_object_of d ms = do
  kind ← type_of d
  actions ← dimension_of (codes "actions") d
  locations ← dimension_of (codes "locations") d
  datatypes ← dimension_of (codes "datatypes") d
  privileges ← dimension_of (codes "privileges") d
  identifier ← identifier_of d
  few_atoms (record {
    kind = kind;
    actions = actions;
    locations = locations;
    datatypes = datatypes;
    privileges = privileges;
    identifier = identifier;
    further =
        further_of ms;
  })

-- ---- rights

abbrev pub object_in : Data → Option Members → Result Right RightsFault
object_in d None = Err faults.Wrong
object_in d (Some ms) = right_object_of d ms >>= λ r. Ok (rights.Object r)

abbrev pub right_in : Data → Option (List ℕ) → Result Right RightsFault
right_in d (Some s) = sized s >>= λ s. Ok (rights.Reference s)
right_in d None = object_in d (as_object d)

-- a right is a string, its reference, or an object, the right in full
unfoldable pub right_of : Data → Result Right RightsFault
right_of d = right_in d (as_str d)

-- an array of rights
unfoldable pub rights_of : Data → Result (List Right) RightsFault
rights_of d = or_fault faults.Wrong (as_array d) >>= each right_of
