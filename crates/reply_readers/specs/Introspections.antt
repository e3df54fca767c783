-- Replies to introspections, as a resource server reads them (RFC 9767, section 3.3).
use Rattle.std.specs.Prelude.{ℕ, ◌==◌, ◌&&◌, not, Bool, List, Option, Some, None, Result, Ok, Err, if◌then◌else◌, codes}
use Rattle.std.specs.Result.{result_ok}
use Rattle.std.specs.Str.{bytes_eq}
use Rattle.serde_json.specs.Data.{Data}
use Rattle.serde_json.specs.Find.{as_bool}
use Rattle.json_objects.specs.Bodies.{body_of}
use Rattle.json_objects.specs.Reading.{◌>>=◌}
use Rattle.reply_readers.specs.declared.members.FormFault.{FormFault}
use Rattle.reply_readers.specs.declared.members.FormFault.TheVariants as faults
use Rattle.reply_readers.specs.declared.judgement.Judgement.{Judgement}
use Rattle.reply_readers.specs.declared.judgement.Judgement.TheVariants.{Active, Inactive}
use Rattle.reply_readers.specs.Members.{there, needed, needed_text, needed_number, optional_text, needed_rights, bearer_of}
use Rattle.reply_readers.specs.Grants.{object_in}

-- the key of a bound token: a token has a key or the flag, and not both; the key is the client's instance
abbrev pub key_of : Bool → List ℕ → Option (List ℕ) → Result (Option (List ℕ)) FormFault
key_of bearer instance None = if bearer then Ok None else Err faults.NotOfForm
key_of bearer instance (Some key) = if not bearer && bytes_eq key instance then Ok (Some key) else Err faults.NotOfForm

unfoldable pub key_in : Data → Result (Option (List ℕ)) FormFault
key_in d = do
  bearer ← bearer_of d
  instance ← needed_text (codes "instance_id") d
  named ← optional_text (codes "key") d
  key_of bearer instance named

-- when the token ends; when it was given, and by whom, is told too
unfoldable pub exp_in : Data → Result ℕ FormFault
exp_in d = do
  exp ← needed_number (codes "exp") d
  iat ← needed_number (codes "iat") d
  iss ← needed_text (codes "iss") d
  Ok exp

unfoldable pub active_of : Data → Result Judgement FormFault
active_of d = do
  exp ← exp_in d
  key ← key_in d
  access ← needed_rights (codes "access") d
  Ok (Active access key exp)

abbrev pub needed_flag : Data → Result Bool FormFault
needed_flag d = needed (codes "active") d >>= λ m. there (as_bool m)

unfoldable pub judgement_of : Data → Result Judgement FormFault
judgement_of d = needed_flag d >>= λ active. if active then active_of d else Ok Inactive

unfoldable pub judgement_reading : ℕ → List ℕ → Result Judgement FormFault
judgement_reading status body = if not (status == 200) then Err faults.NotOfForm else (object_in (body_of body) >>= judgement_of)

-- what a reply of this status and this body says of a token
abbrev pub judgement : ℕ → List ℕ → Option Judgement
judgement status body = result_ok (judgement_reading status body)
