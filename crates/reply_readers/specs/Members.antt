-- Reading the objects of replies: the members that have to be there, and the forms of those that are there.
use Rattle.std.specs.Prelude.{◌≡◌, ℕ, ◌==◌, ◌&&◌, nat_le, nat_lt, Bool, true, false, List, length, Option, Some, None, Result, Ok, Err, if◌then◌else◌, codes}
use Rattle.std.specs.List.{list_all}
use Rattle.std.specs.Str.{bytes_eq}
use Rattle.serde_json.specs.Data.{Data, Num, Items, no_items, item}
use Rattle.serde_json.specs.Find.{get, as_str, as_array, as_number, as_u64}
use Rattle.json_objects.specs.Reading.{◌>>=◌, or_fault}
use Rattle.gnap_model.specs.declared.rights.Right.{Right}
use Rattle.access_rights.specs.declared.reading.RightsFault.{RightsFault}
use Rattle.access_rights.specs.Reading.{rights_of}
use Rattle.reply_readers.specs.declared.members.FormFault.{FormFault}
use Rattle.reply_readers.specs.declared.members.FormFault.TheVariants as faults

-- what is there
abbrev pub there : {A : Type 0} → Option A → Result A FormFault
there found = or_fault faults.NotOfForm found

-- what is read of a member, where it is there
abbrev pub where_there : {A : Type 0} → (Data → Result A FormFault) → Option Data → Result (Option A) FormFault
where_there reading None = Ok None
where_there reading (Some d) = reading d >>= λ x. Ok (Some x)

-- what has passed the test
abbrev pub tested : {A : Type 0} → (A → Bool) → A → Result A FormFault
tested test x = if test x then Ok x else Err faults.NotOfForm

-- A reader that keeps nothing answers what the reading is, seen by view, or that there is none.
abbrev pub Tells : {X Y : Type 0} → (X → Y) → Option X → Result Y FormFault → Type 0
Tells view (Some x) reading = reading ≡ Ok (view x)
Tells view None reading = reading ≡ Err faults.NotOfForm

-- ---- members

-- the member of that name, which must be there
abbrev pub needed : List ℕ → Data → Result Data FormFault
needed name d = there (get name d)

-- any string
abbrev pub text_of : Data → Result (List ℕ) FormFault
text_of d = there (as_str d)

abbrev pub needed_text : List ℕ → Data → Result (List ℕ) FormFault
needed_text name d = needed name d >>= text_of

-- a string, where the member is there
abbrev pub optional_text : List ℕ → Data → Result (Option (List ℕ)) FormFault
optional_text name d = where_there text_of (get name d)

abbrev pub whole_in : Option Num → Option ℕ
whole_in None = None
whole_in (Some n) = as_u64 n

-- a whole number from 0
abbrev pub needed_number : List ℕ → Data → Result ℕ FormFault
needed_number name d = needed name d >>= λ m. there (whole_in (as_number m))

-- ---- values

-- a visible character of ASCII
abbrev pub is_value_byte : ℕ → Bool
is_value_byte b = nat_le 33 b && nat_le b 126

-- a value as it may be presented (RFC 9635, section 7.2)
abbrev pub is_value : List ℕ → Bool
is_value s = nat_lt 0 (length s) && list_all is_value_byte s

-- an access token's value or management value
abbrev pub is_drawn : List ℕ → Bool
is_drawn s = list_all is_value_byte s && length s == 32

abbrev pub needed_drawn : List ℕ → Data → Result (List ℕ) FormFault
needed_drawn name d = needed_text name d >>= tested is_drawn

-- ---- rights and flags

abbrev pub rights_in : Result (List Right) RightsFault → Result (List Right) FormFault
rights_in (Ok rights) = Ok rights
rights_in (Err fault) = Err faults.NotOfForm

abbrev pub needed_rights : List ℕ → Data → Result (List Right) FormFault
needed_rights name d = needed name d >>= λ m. rights_in (rights_of m)

abbrev pub is_bearer_text : Option (List ℕ) → Bool
is_bearer_text None = false
is_bearer_text (Some s) = bytes_eq s (codes "bearer")

abbrev pub is_bearer_only : Option Items → Bool
is_bearer_only None = false
is_bearer_only (Some no_items) = false
is_bearer_only (Some (item d no_items)) = is_bearer_text (as_str d)
is_bearer_only (Some (item d (item e es))) = false

-- `["bearer"]`
abbrev pub is_bearer_list : Data → Bool
is_bearer_list d = is_bearer_only (as_array d)

abbrev pub bearer_in : Option Data → Result Bool FormFault
bearer_in None = Ok false
bearer_in (Some d) = if is_bearer_list d then Ok true else Err faults.NotOfForm

-- `flags`, where it is there: the token is a bearer token
abbrev pub bearer_of : Data → Result Bool FormFault
bearer_of d = bearer_in (get (codes "flags") d)
