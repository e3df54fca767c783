-- A line of a script: the step that it is, a JSON object (RFC 8259). Members of other names aren't looked at.
use Rattle.std.specs.Prelude.{ℕ, ◌&&◌, nat_le, Bool, true, false, not, List, Option, Some, None, Result, Ok, Err, option_and_then, is_some, if◌then◌else◌, codes}
use Rattle.std.specs.Str.{bytes_eq, is_utf8}
use Rattle.serde_json.specs.Data.{Data}
use Rattle.serde_json.specs.Find.{get, as_str, as_object, as_number, as_u64}
use Rattle.serde_json.specs.Read.{read}
use Rattle.serde_json.specs.Written.{has_float}
use Rattle.json_objects.specs.Reading.{◌>>=◌, or_fault}
use Rattle.gnap_model.specs.declared.objects.GrantRequest.{GrantRequest}
use Rattle.gnap_objects.specs.declared.fault.ObjectFault.{ObjectFault}
use Rattle.gnap_objects.specs.Grants.{request_of}
use Rattle.message_signature.specs.Marks.{is_nonce}
use Rattle.signed_requests.specs.Forms.{is_method, is_target}
use Rattle.signed_requests.specs.Nonces.{line_nonce}
use Rattle.gnap_objects.specs.declared.fault.ObjectFault.TheVariants as object_faults
use Rattle.client_scripts.specs.declared.line_faults.LineMember.{LineMember}
use Rattle.client_scripts.specs.declared.line_faults.LineMember.TheVariants.{At, Nonce, Do, Body, Hash, Reference, Token, Method, Path}
use Rattle.client_scripts.specs.declared.line_faults.BadLine.TheVariants as bad
use Rattle.client_scripts.specs.declared.line_faults.LineFault.{LineFault}
use Rattle.client_scripts.specs.declared.line_faults.LineFault.TheVariants as faults
use Rattle.client_scripts.specs.declared.deeds.Deed.{Deed}
use Rattle.client_scripts.specs.declared.deeds.ScriptStep.{ScriptStep}
use Rattle.client_scripts.specs.declared.deeds.Deed.TheVariants.{Begin, Poll, Finish, Patch, Cancel, Rotate, Revoke, Use}

-- ---- members, which must be there but for `nonce`

abbrev pub name_of : LineMember → List ℕ
name_of At = codes "at"
name_of Nonce = codes "nonce"
name_of Do = codes "do"
name_of Body = codes "body"
name_of Hash = codes "hash"
name_of Reference = codes "reference"
name_of Token = codes "token"
name_of Method = codes "method"
name_of Path = codes "path"

-- what the member has to be, in words
abbrev pub form_of : LineMember → List ℕ
form_of At = codes "a moment (0 to 253402300799, in seconds since 1970)"
form_of Nonce = codes "1 to 64 letters, digits, `.`, `_` or `-`"
form_of Do = codes "begin, poll, finish, patch, cancel, rotate, revoke or use"
form_of Body = codes "an object with whole numbers"
form_of Hash = codes "a string"
form_of Reference = codes "a string"
form_of Token = codes "a whole number from 0 to 2^64 - 1"
form_of Method = codes "1 to 15 upper-case letters"
form_of Path = codes "`/` and at most 2,047 bytes from 0x21 to 0x7E"

-- the member is absent, or isn't of its form
abbrev pub missing : LineMember → LineFault
missing member = faults.BadLine (bad.Missing member)

abbrev pub wrong : LineMember → LineFault
wrong member = faults.BadLine (bad.Wrong member)

-- the value of that member
abbrev pub line_member : LineMember → Data → Result Data LineFault
line_member member d = or_fault (missing member) (get (name_of member) d)

-- a string
abbrev pub line_text : LineMember → Data → Result (List ℕ) LineFault
line_text member d = line_member member d >>= λ m. or_fault (wrong member) (as_str m)

-- a whole number from 0 to 2^64 - 1
abbrev pub line_number : LineMember → Data → Result ℕ LineFault
line_number member d = line_member member d >>= λ m. or_fault (wrong member) (option_and_then as_u64 (as_number m))

-- `at`: seconds since 1970, up to the year 9999
abbrev pub timely : ℕ → Result ℕ LineFault
timely n = if nat_le n 253402300799 then Ok n else Err (wrong At)

unfoldable pub line_moment : Data → Result ℕ LineFault
line_moment d = line_number At d >>= timely

-- `body`: an object in which each number is whole
abbrev pub line_object : Data → Result Data LineFault
line_object d = if is_some (as_object d) && not (has_float d) then Ok d else Err (wrong Body)

-- what a fault of the body is for the line
abbrev pub in_body : ObjectFault → LineFault
in_body object_faults.OutOfMemory = faults.OutOfMemory
in_body fault = faults.BadLine (bad.InBody fault)

abbrev pub readable_request : Result GrantRequest ObjectFault → Result GrantRequest LineFault
readable_request (Ok request) = Ok request
readable_request (Err fault) = Err (in_body fault)

-- a grant request, or a modification
unfoldable pub line_request : Bool → Data → Result GrantRequest LineFault
line_request modify d = line_member Body d >>= line_object >>= λ body. readable_request (request_of modify body)

abbrev pub passing : (List ℕ → Bool) → LineMember → List ℕ → Result (List ℕ) LineFault
passing test member s = if test s then Ok s else Err (wrong member)

-- `nonce`: one that can be signed
abbrev pub nonce_or : List ℕ → Option Data → Result (List ℕ) LineFault
nonce_or default None = Ok default
nonce_or default (Some m) = or_fault (wrong Nonce) (as_str m) >>= passing is_nonce Nonce

-- where there is none, the nonce of the line's number
unfoldable pub step_nonce : ℕ → ℕ → Data → Result (List ℕ) LineFault
step_nonce at number d = nonce_or (line_nonce at number) (get (name_of Nonce) d)

-- ---- the deed

unfoldable pub finish_in : Data → Result Deed LineFault
finish_in d = do
  hash ← line_text Hash d
  reference ← line_text Reference d
  Ok (Finish hash reference)

unfoldable pub use_in : Data → Result Deed LineFault
use_in d = do
  token ← line_number Token d
  method ← line_text Method d >>= passing is_method Method
  path ← line_text Path d >>= passing is_target Path
  Ok (Use token method path)

unfoldable pub deed_named : List ℕ → Data → Result Deed LineFault
deed_named word d =
    if bytes_eq word (codes "begin") then (line_request false d >>= λ r. Ok (Begin r))
    else if bytes_eq word (codes "poll") then Ok Poll
    else if bytes_eq word (codes "finish") then finish_in d
    else if bytes_eq word (codes "patch") then (line_request true d >>= λ r. Ok (Patch r))
    else if bytes_eq word (codes "cancel") then Ok Cancel
    else if bytes_eq word (codes "rotate") then (line_number Token d >>= λ i. Ok (Rotate i))
    else if bytes_eq word (codes "revoke") then (line_number Token d >>= λ i. Ok (Revoke i))
    else if bytes_eq word (codes "use") then use_in d
    else Err (wrong Do)

unfoldable pub object_step : ℕ → Data → Result ScriptStep LineFault
object_step number d = do
  at ← line_moment d
  nonce ← step_nonce at number d
  word ← line_text Do d
  deed ← deed_named word d
  Ok (record { at = at; nonce = nonce; deed = deed })

-- no JSON text in UTF-8
abbrev pub not_json : LineFault
not_json = faults.BadLine bad.NotJson

abbrev pub read_step : ℕ → Option Data → Result ScriptStep LineFault
read_step number None = Err not_json
read_step number (Some d) = object_step number d

-- what the line of this number says
unfoldable pub line_step : ℕ → List ℕ → Result ScriptStep LineFault
line_step number line = if is_utf8 line then read_step number (read line) else Err not_json
