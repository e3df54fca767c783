-- Identifiers of the user in a grant request (RFC 9635, sections 2.2 and 2.4). The one format that is read is `opaque` (RFC 9493, section 3.2.4).
use Rattle.std.specs.Prelude.{ℕ, List, Bool, false, Option, Some, None, option_and_then, Result, Ok, if◌then◌else◌, codes}
use Rattle.serde_json.specs.Data.{Data, Items, no_items, item}
use Rattle.serde_json.specs.Find.{get, as_str}
use Rattle.json_objects.specs.Reading.{◌>>=◌, or_fault}
use Rattle.gnap_model.specs.Common.{is_text}
use Rattle.gnap_objects.specs.declared.fault.ObjectFault.{ObjectFault}
use Rattle.gnap_objects.specs.declared.fault.ObjectFault.TheVariants as faults
use Rattle.gnap_objects.specs.Reading.{optional, checked_object, required_items, has_string, required_text, sized}

abbrev pub subject_in : Option Data → Result Bool ObjectFault
subject_in None = Ok false
subject_in (Some d) = checked_object (codes "subject") d >>= required_items (codes "sub_id_formats") >>= has_string (codes "sub_id_formats") (codes "opaque")

-- `subject`: an object with `sub_id_formats`, strings; an identifier is asked for where `opaque` is among them
unfoldable pub subject_request_of : Data → Result Bool ObjectFault
subject_request_of d = subject_in (get (codes "subject") d)

-- an identifier of the format `opaque`
abbrev pub is_opaque : Data → Bool
is_opaque d = is_text (codes "opaque") (option_and_then as_str (get (codes "format") d))

-- the first one among the items
abbrev pub first_opaque : Items → Option Data
first_opaque no_items = None
first_opaque (item d ds) = if is_opaque d then Some d else first_opaque ds

-- an object with `sub_ids`, the first opaque one of which has the identifier under `id`, of 1 to 256 bytes
unfoldable pub identified_user : Data → Result (List ℕ) ObjectFault
identified_user d = checked_object (codes "user") d >>= required_items (codes "sub_ids") >>= λ ids. or_fault (faults.Wrong (codes "sub_ids")) (first_opaque ids)
    >>= required_text (codes "id") >>= sized 256 (codes "id")

abbrev pub user_in : Data → Option (List ℕ) → Result (List ℕ) ObjectFault
user_in d (Some s) = sized 256 (codes "user") s
user_in d None = identified_user d

-- `user`: the identifier, of 1 to 256 bytes, or an object that has it, where it is there
unfoldable pub user_of : Data → Result (Option (List ℕ)) ObjectFault
user_of d = optional (λ u. user_in u (as_str u)) (get (codes "user") d)
