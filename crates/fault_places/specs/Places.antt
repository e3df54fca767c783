-- Where a text is at fault that should be a setup.
use Rattle.std.specs.Prelude.{◌≡◌, ◌⊎◌, ℕ, List, true, false, Option, Some, None, is_some, option_and_then, codes}
use Rattle.std.specs.Str.{IsUtf8}
use Rattle.serde_json.specs.Data.{Data}
use Rattle.serde_json.specs.Find.{get, at, as_str, as_object}
use Rattle.serde_json.specs.Read.{read}
use Rattle.serde_json.specs.Written.{has_float}
use Rattle.gnap_objects.specs.declared.setups.SetupFault.{SetupFault}
use Rattle.gnap_objects.specs.declared.setups.SetupFault.TheVariants.{NotJson, InSetup, InKey, OutOfMemory as Starved}
use Rattle.fault_places.specs.declared.FaultPlace.{FaultPlace}
use Rattle.fault_places.specs.declared.FaultPlace.TheVariants.{Syntax, NoObject, Number, Key, Unknown, OutOfMemory}

-- the text is this value (RFC 8259), in UTF-8
abbrev pub IsJsonOf : Data → List ℕ → Type 0
IsJsonOf value text = IsUtf8 text × (read text ≡ Some value)

abbrev pub IsNoJson : List ℕ → Type 0
IsNoJson text = IsUtf8 text → read text ≡ None

-- the id of the key at a place of `keys`, counted from 0, where it has one
abbrev pub id_at : ℕ → Data → Option (List ℕ)
id_at place value = option_and_then as_str (option_and_then (get (codes "id")) (option_and_then (at place) (get (codes "keys") value)))

-- where a text is at fault that is no object with whole numbers; an object with whole numbers has no such place
abbrev pub IsInText : List ℕ → FaultPlace → Type 0
IsInText text (Syntax line column) = IsNoJson text
IsInText text NoObject = (value : Data) × IsJsonOf value text × (is_some (as_object value) ≡ false)
IsInText text Number = (value : Data) × IsJsonOf value text × (is_some (as_object value) ≡ true) × (has_float value ≡ true)
IsInText text (Key id) = ⊥
IsInText text Unknown = (value : Data) × IsJsonOf value text × (is_some (as_object value) ≡ true) × (has_float value ≡ false)
IsInText text OutOfMemory = Unit {0}

-- where a text is at fault in its key at a place; none is known where the text is no JSON, or has no id there
abbrev pub IsInKey : ℕ → List ℕ → FaultPlace → Type 0
IsInKey place text (Key id) = (value : Data) × IsJsonOf value text × (id_at place value ≡ Some id)
IsInKey place text Unknown = IsNoJson text ⊎ ((value : Data) × IsJsonOf value text × (id_at place value ≡ None))
IsInKey place text OutOfMemory = Unit {0}
IsInKey place text _ = ⊥

-- where a text has the fault that its reader told; in a member of the setup itself no place is known
abbrev pub IsPlaceOf : SetupFault → List ℕ → FaultPlace → Type 0
IsPlaceOf NotJson text place = IsInText text place
IsPlaceOf (InKey number fault) text place = IsInKey number text place
IsPlaceOf (InSetup fault) text place = place ≡ Unknown
IsPlaceOf Starved text place = place ≡ OutOfMemory
