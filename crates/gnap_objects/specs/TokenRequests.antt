-- Token requests (RFC 9635, section 2.1).
use Rattle.std.specs.Prelude.{ℕ, ◌==◌, ◌||◌, List, [], ◌∷◌, ◌++◌, length, Bool, true, false, not, Option, Some, None, Result, Ok, Err, nat_lt, if◌then◌else◌, codes, is_some}
use Rattle.std.specs.List.{list_any}
use Rattle.std.specs.Str.{bytes_eq}
use Rattle.serde_json.specs.Data.{Data, Items, no_items, item}
use Rattle.serde_json.specs.Find.{get, as_array, as_object}
use Rattle.json_objects.specs.Reading.{◌>>=◌, or_fault}
use Rattle.gnap_model.specs.Common.{is_text}
use Rattle.gnap_model.specs.declared.rights.Right.{Right}
use Rattle.gnap_model.specs.declared.objects.Ask.{Ask}
use Rattle.gnap_objects.specs.declared.fault.ObjectFault.{ObjectFault}
use Rattle.gnap_objects.specs.declared.fault.ObjectFault.TheVariants as faults
use Rattle.gnap_objects.specs.declared.token_requests.Flags.{Flags}
use Rattle.gnap_objects.specs.declared.token_requests.TokenRequest.{TokenRequest}
use Rattle.gnap_objects.specs.declared.token_requests.TokenRequests.{TokenRequests}
use Rattle.gnap_objects.specs.Reading.{sized, text_of, checked, rights_under, counted_rights}

-- `access`: 1 to 16 rights
unfoldable pub access_of : Data → Result (List Right) ObjectFault
access_of d = rights_under (codes "access") d >>= counted_rights (codes "access")

-- ---- label

abbrev pub has_label : List ℕ → Ask → Bool
has_label label ask = is_text label ask.label

abbrev pub label_in : Bool → List Ask → Option Data → Result (Option (List ℕ)) ObjectFault
label_in needed before None = if needed then Err (faults.Missing (codes "label")) else Ok None
label_in needed before (Some d) = text_of (codes "label") d >>= sized 64 (codes "label")
    >>= checked (λ label. not (list_any (has_label label) before)) (codes "label") >>= λ label. Ok (Some label)

-- `label`: a string of 1 to 64 bytes that none of the requests before has
unfoldable pub label_of : Bool → List Ask → Data → Result (Option (List ℕ)) ObjectFault
label_of needed before d = label_in needed before (get (codes "label") d)

-- ---- flags

abbrev pub has_flag : List ℕ → List (List ℕ) → Bool
has_flag flag flags = list_any (λ other. bytes_eq other flag) flags

-- the flags are those before and these, and one of those before stands twice where it says so
abbrev pub flags_from : List (List ℕ) → Bool → Items → Result Flags ObjectFault
flags_from before repeated no_items = Ok (record { bearer = has_flag (codes "bearer") before; repeated = repeated })
flags_from before repeated (item d ds) =
    text_of (codes "flags") d >>= λ flag. flags_from (before ++ flag ∷ []) (repeated || has_flag flag before) ds

abbrev pub flags_in : Option Data → Result Flags ObjectFault
flags_in None = Ok (record { bearer = false; repeated = false })
flags_in (Some d) = or_fault (faults.Wrong (codes "flags")) (as_array d) >>= flags_from [] false

-- `flags`: strings, of which `bearer` counts
unfoldable pub flags_of : Data → Result Flags ObjectFault
flags_of d = flags_in (get (codes "flags") d)

-- ---- token requests

abbrev pub object_request : Bool → List Ask → Data → Result TokenRequest ObjectFault
object_request needed before d = do
  rights ← access_of d
  label ← label_of needed before d
  flags ← flags_of d
  Ok (record { ask = record { label = label; rights = rights; bearer = flags.bearer }; repeats_flag = flags.repeated })

-- A token request: an object. A label is needed where several tokens are asked for.
unfoldable pub token_request_of : Bool → List Ask → Data → Result TokenRequest ObjectFault
token_request_of needed before d = if is_some (as_object d) then object_request needed before d else Err (faults.Wrong (codes "access_token"))

-- the requests of an array, after those before
abbrev pub token_requests_from : List Ask → Bool → Items → Result TokenRequests ObjectFault
token_requests_from before repeats no_items = Ok (record { asks = before; single = false; repeats_flag = repeats })
token_requests_from before repeats (item d ds) =
    token_request_of true before d >>= λ t. token_requests_from (before ++ t.ask ∷ []) (repeats || t.repeats_flag) ds

-- 1 to 8 of them
abbrev pub counted_requests : TokenRequests → Result TokenRequests ObjectFault
counted_requests ts = if length ts.asks == 0 then Err (faults.Wrong (codes "access_token"))
    else (if nat_lt 8 (length ts.asks) then Err (faults.TooMany (codes "access_token")) else Ok ts)

abbrev pub single_request : Data → Result TokenRequests ObjectFault
single_request d = token_request_of false [] d >>= λ t. Ok (record { asks = t.ask ∷ []; single = true; repeats_flag = t.repeats_flag })

abbrev pub requests_in : Data → Option Items → Result TokenRequests ObjectFault
requests_in d None = single_request d
requests_in d (Some ds) = token_requests_from [] false ds >>= counted_requests

abbrev pub requests_under : Option Data → Result TokenRequests ObjectFault
requests_under None = Ok (record { asks = []; single = false; repeats_flag = false })
requests_under (Some d) = requests_in d (as_array d)

-- `access_token`: a token request, or an array of 1 to 8, where it is there
unfoldable pub token_requests_of : Data → Result TokenRequests ObjectFault
token_requests_of d = requests_under (get (codes "access_token") d)
