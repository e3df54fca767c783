-- Reading an object, member by member in the order of its table, up to the first fault.
use Rattle.std.specs.Prelude.{ℕ, ◌==◌, List, length, Bool, true, false, Option, Some, None, Result, Ok, Err, nat_lt, if◌then◌else◌, is_some, codes}
use Rattle.std.specs.List.{list_any}
use Rattle.std.specs.Str.{bytes_eq}
use Rattle.serde_json.specs.Data.{Data, Items}
use Rattle.serde_json.specs.Find.{get, as_str, as_array, as_object}
use Rattle.serde_json.specs.Written.{compact_text}
use Rattle.json_objects.specs.Reading.{◌>>=◌, or_fault, each}
use Rattle.json_objects.specs.Members.{other_member}
use Rattle.gnap_objects.specs.declared.fault.ObjectFault.{ObjectFault}
use Rattle.gnap_objects.specs.declared.fault.ObjectFault.TheVariants as faults
use Rattle.gnap_model.specs.declared.rights.Right.{Right}
use Rattle.access_rights.specs.declared.reading.RightsFault.{RightsFault}
use Rattle.access_rights.specs.declared.reading.RightsFault.TheVariants as rights_faults
use Rattle.access_rights.specs.Reading.{rights_of}
use Rattle.access_rights.specs.Printing.{rights_data}
use Rattle.gnap_objects.specs.declared.members.KeyName.{KeyName}
use Rattle.gnap_objects.specs.Forms.{is_id}

-- the member of that name, which must be there
abbrev pub required : List ℕ → Data → Result Data ObjectFault
required name d = or_fault (faults.Missing name) (get name d)

-- what is read of a member, where it is there
abbrev pub optional : {A : Type 0} → (Data → Result A ObjectFault) → Option Data → Result (Option A) ObjectFault
optional reading None = Ok None
optional reading (Some d) = reading d >>= λ x. Ok (Some x)

-- any string; a fault names the member name
unfoldable pub text_of : List ℕ → Data → Result (List ℕ) ObjectFault
text_of name d = or_fault (faults.Wrong name) (as_str d)

-- the member of that name, which must be there: any string
unfoldable pub required_text : List ℕ → Data → Result (List ℕ) ObjectFault
required_text name d = required name d >>= text_of name

-- the items of the member of that name, which must be there: an array
abbrev pub required_items : List ℕ → Data → Result Items ObjectFault
required_items name d = required name d >>= λ a. or_fault (faults.Wrong name) (as_array a)

-- an object; a fault names the member name
abbrev pub checked_object : List ℕ → Data → Result Data ObjectFault
checked_object name d = if is_some (as_object d) then Ok d else Err (faults.Wrong name)

-- the items are strings, and one of them is this; a fault names the member name
abbrev pub has_string : List ℕ → List ℕ → Items → Result Bool ObjectFault
has_string name wanted ds = each (text_of name) ds >>= λ texts. Ok (list_any (λ text. bytes_eq text wanted) texts)

-- a text of at least one byte, and at most so many; a fault names the member name
abbrev pub sized : ℕ → List ℕ → List ℕ → Result (List ℕ) ObjectFault
sized most name s = if length s == 0 then Err (faults.Wrong name) else (if nat_lt most (length s) then Err (faults.TooMany name) else Ok s)

-- a text of that size that the value is; a fault names the member name
abbrev pub sized_text : ℕ → List ℕ → Data → Result (List ℕ) ObjectFault
sized_text most name d = text_of name d >>= sized most name

-- what has passed the test; a fault names the member name
abbrev pub checked : {A : Type 0} → (A → Bool) → List ℕ → A → Result A ObjectFault
checked test name x = if test x then Ok x else Err (faults.Wrong name)

-- an id
unfoldable pub id_of : List ℕ → Data → Result (List ℕ) ObjectFault
id_of name d = text_of name d >>= checked is_id name

abbrev pub key_object : List ℕ → Data → Bool → Result KeyName ObjectFault
key_object name d false = Err (faults.Wrong name)
key_object name d true = required (codes "key") d >>= id_of (codes "key") >>= λ id. Ok (record { id = id; by_object = true })

abbrev pub key_name_in : List ℕ → Data → Option (List ℕ) → Result KeyName ObjectFault
key_name_in name d (Some s) = id_of name d >>= λ id. Ok (record { id = id; by_object = false })
key_name_in name d None = key_object name d (is_some (as_object d))

-- the name of a key: its id, or an object with it under `key`
unfoldable pub key_name_of : List ℕ → Data → Result KeyName ObjectFault
key_name_of name d = key_name_in name d (as_str d)

-- how the member of that name, which must be there, names a key
abbrev pub required_key_name : List ℕ → Data → Result KeyName ObjectFault
required_key_name name d = required name d >>= key_name_of name

abbrev pub none_unknown : {A : Type 0} → Option (List ℕ) → A → Result A ObjectFault
none_unknown None x = Ok x
none_unknown (Some name) x = Err (faults.Unknown name)

-- what was read of an object that has no members but these
abbrev pub without_others : {A : Type 0} → List (List ℕ) → Data → A → Result A ObjectFault
without_others names d x = none_unknown (other_member names d) x

-- ---- rights

-- a fault inside the rights stands under the member that has them
abbrev pub under : List ℕ → Result (List Right) RightsFault → Result (List Right) ObjectFault
under name (Ok rs) = Ok rs
under name (Err rights_faults.Wrong) = Err (faults.Wrong name)
under name (Err rights_faults.TooMany) = Err (faults.TooMany name)
under name (Err rights_faults.OutOfMemory) = Err faults.OutOfMemory

-- the member of that name, which must be there: an array of rights
unfoldable pub rights_under : List ℕ → Data → Result (List Right) ObjectFault
rights_under name d = required name d >>= λ a. under name (rights_of a)

-- 1 to 16 rights
abbrev pub counted_rights : List ℕ → List Right → Result (List Right) ObjectFault
counted_rights name rs = if length rs == 0 then Err (faults.Wrong name)
    else (if nat_lt 16 (length rs) then Err (faults.TooMany name) else Ok rs)

-- the compact text of the array of the rights has more than 4,096 bytes
abbrev pub is_too_long : List Right → Bool
is_too_long rights = nat_lt 4096 (length (compact_text (rights_data rights)))
