-- A line of a replay: the call that it makes, or what is said to it at once.
use Rattle.std.specs.Prelude.{ℕ, ◌-◌, ◌==◌, Bool, true, List, [], ◌∷◌, ◌++◌, length, codes, replicate, nat_lt, nat_le, is_some, Option, Some, None, if◌then◌else◌, option_map, option_and_then}
use Rattle.std.specs.Option.{unwrap_or}
use Rattle.std.specs.Str.{bytes_eq, is_utf8}
use Rattle.serde_json.specs.Data.{Data, Items, no_items, item}
use Rattle.serde_json.specs.Find.{get, as_str, as_array, as_object, as_number, as_u64}
use Rattle.serde_json.specs.Read.{read}
use Rattle.serde_json.specs.Written.{has_float}
use Rattle.message_signature.specs.Marks.{has_nonce_length}
use Rattle.gnap_model.specs.declared.objects.Setup.{Setup}
use Rattle.gnap_model.specs.declared.objects.ErrorCode.{ErrorCode}
use Rattle.gnap_model.specs.declared.objects.ErrorCode.TheVariants.{InvalidRequest}
use Rattle.gnap_objects.specs.declared.call_reading.CallKind.{CallKind}
use Rattle.gnap_objects.specs.declared.call_reading.CallKind.TheVariants.{Begin, Continue, Modify, Cancel, Rotate, Revoke, Introspect, Look, FindCode, Decide}
use Rattle.gnap_objects.specs.declared.call_reading.CallOrRefusal.{CallOrRefusal}
use Rattle.gnap_objects.specs.declared.call_reading.CallOrRefusal.TheVariants.{Accepted, Refused}
use Rattle.gnap_objects.specs.CallReading.{Body, NoBody, ObjectBody, NoObject, call_of}
use Rattle.signed_calls.specs.declared.signed.Mark.{Mark}
use Rattle.signed_requests.specs.Nonces.{line_nonce}
use Rattle.call_replay.specs.declared.call_lines.LineStep.{LineStep}
use Rattle.call_replay.specs.declared.call_lines.LineStep.TheVariants.{Say, Ask}
use Rattle.call_replay.specs.ReplyLines.{error_line}

-- ---- the form of a call line: a JSON object with these members; others are not looked at

-- a whole number from 0 to 2^64 - 1
abbrev pub word_of : Data → Option ℕ
word_of d = option_and_then as_u64 (as_number d)

-- `at`: seconds since 1970, up to the year 9999
abbrev pub in_time : ℕ → Option ℕ
in_time n = if nat_le n 253402300799 then Some n else None

unfoldable pub moment_of : Data → Option ℕ
moment_of d = option_and_then in_time (option_and_then word_of (get (codes "at") d))

-- a member that is a string
unfoldable pub text_under : List ℕ → Data → Option (List ℕ)
text_under name d = option_and_then as_str (get name d)

-- `value`: a string; absent, it is empty
abbrev pub text_or_empty : Option Data → Option (List ℕ)
text_or_empty None = Some []
text_or_empty (Some v) = as_str v

unfoldable pub value_of : Data → Option (List ℕ)
value_of d = text_or_empty (get (codes "value") d)

-- `body`: an object, or absent
abbrev pub is_object_or_absent : Option Data → Bool
is_object_or_absent None = true
is_object_or_absent (Some v) = is_some (as_object v)

unfoldable pub has_body_form : Data → Bool
has_body_form d = is_object_or_absent (get (codes "body") d)

-- `draw`: up to 48 numbers of 64 bits; those that are not given are 0
abbrev pub filled : List ℕ → Option (List ℕ)
filled words = if nat_le (length words) 48 then Some (words ++ replicate (48 - length words) 0) else None

-- the words that were given, after those before
abbrev pub words_from : List ℕ → Items → Option (List ℕ)
words_from before no_items = filled before
words_from before (item d ds) = option_and_then (λ word. words_from (before ++ word ∷ []) ds) (word_of d)

abbrev pub words_in : Option Items → Option (List ℕ)
words_in None = None
words_in (Some ds) = words_from [] ds

abbrev pub draw_in : Option Data → Option (List ℕ)
draw_in None = Some (replicate 48 0)
draw_in (Some v) = words_in (as_array v)

unfoldable pub draw_of : Data → Option (List ℕ)
draw_of d = draw_in (get (codes "draw") d)

-- `nonce`: a string of 1 to 64 bytes, or absent
abbrev pub sized_nonce : List ℕ → Option (List ℕ)
sized_nonce nonce = if has_nonce_length nonce then Some nonce else None

abbrev pub nonce_or_absent : Option Data → Option (Option (List ℕ))
nonce_or_absent None = Some None
nonce_or_absent (Some v) = option_map Some (option_and_then sized_nonce (as_str v))

unfoldable pub nonce_in : Data → Option (Option (List ℕ))
nonce_in d = nonce_or_absent (get (codes "nonce") d)

-- `created`: a moment as `at` is, or absent
abbrev pub moment_or_absent : Option Data → Option (Option ℕ)
moment_or_absent None = Some None
moment_or_absent (Some v) = option_map Some (option_and_then in_time (word_of v))

unfoldable pub created_in : Data → Option (Option ℕ)
created_in d = moment_or_absent (get (codes "created") d)

-- ---- what is done with it

-- What the signature of a line says of itself: its moment, which is `at` where the line tells none, and its nonce, which is that of `at` and of the line's
-- number where the line tells none.
abbrev pub line_mark : ℕ → ℕ → Option (List ℕ) → Option ℕ → Mark
line_mark at number nonce created = record { nonce = unwrap_or nonce (line_nonce at number); created = unwrap_or created at }

-- An introspection has no mark.
abbrev pub mark_for : CallKind → Mark → Option Mark
mark_for Introspect mark = None
mark_for _ mark = Some mark

abbrev pub refused : ErrorCode → LineStep
refused code = Say (error_line code)

-- the body for the call: each number in it is whole
abbrev pub line_body : Option Data → Body
line_body None = NoBody
line_body (Some d) = if has_float d then NoObject else ObjectBody d

-- the calls by their names
abbrev pub kind_named : List ℕ → Option CallKind
kind_named name = if bytes_eq name (codes "begin") then Some Begin
    else (if bytes_eq name (codes "continue") then Some Continue
    else (if bytes_eq name (codes "modify") then Some Modify
    else (if bytes_eq name (codes "cancel") then Some Cancel
    else (if bytes_eq name (codes "rotate") then Some Rotate
    else (if bytes_eq name (codes "revoke") then Some Revoke
    else (if bytes_eq name (codes "introspect") then Some Introspect
    else (if bytes_eq name (codes "look") then Some Look
    else (if bytes_eq name (codes "find_code") then Some FindCode
    else (if bytes_eq name (codes "decide") then Some Decide else None)))))))))

-- a call is asked of the machine, and a refusal is said
abbrev pub asked : ℕ → List ℕ → Option Mark → CallOrRefusal → LineStep
asked at draw mark (Accepted call) = Ask at draw (record { mark = mark; call = call })
asked at draw mark (Refused code) = refused code

-- a call of another name is not found
abbrev pub call_step : Setup → ℕ → List ℕ → Mark → Option CallKind → List ℕ → List ℕ → Body → LineStep
call_step setup at draw mark None key value body = Say (codes "404\n")
call_step setup at draw mark (Some kind) key value body = asked at draw (mark_for kind mark) (call_of setup kind key value body)

-- what a line says of its signature, and who makes the call of which name with what, where all of it is of its form
abbrev pub form_step : Setup → ℕ → Data → Option ℕ → Option (List ℕ) → Option (List ℕ) → Option (List ℕ) → Option (List ℕ) → Bool
    → Option (Option (List ℕ)) → Option (Option ℕ) → LineStep
form_step setup number d (Some at) (Some call) (Some key) (Some value) (Some draw) true (Some nonce) (Some created) =
    call_step setup at draw (line_mark at number nonce created) (kind_named call) key value (line_body (get (codes "body") d))
form_step setup number d _ _ _ _ _ _ _ _ = refused InvalidRequest

unfoldable pub object_step : Setup → ℕ → Data → LineStep
object_step setup number d =
    form_step setup number d (moment_of d) (text_under (codes "call") d) (text_under (codes "key") d) (value_of d) (draw_of d) (has_body_form d)
    (nonce_in d) (created_in d)

abbrev pub read_step : Setup → ℕ → Option Data → LineStep
read_step setup number None = refused InvalidRequest
read_step setup number (Some d) = object_step setup number d

abbrev pub text_step : Setup → ℕ → List ℕ → LineStep
text_step setup number line = if is_utf8 line then read_step setup number (read line) else refused InvalidRequest

-- the most bytes of a call line
abbrev pub line_limit : ℕ
line_limit = 131072

-- What the line of this number is to the desk; the setup's line has the number 1. An empty line is skipped, and one that is too long isn't read.
unfoldable pub line_step : Setup → ℕ → List ℕ → LineStep
line_step setup number line =
    if length line == 0 then Say [] else (if nat_lt line_limit (length line) then Say (codes "413\n") else text_step setup number line)
