-- What the consent front hands in (RFC 9635, section 4): the handle of an interaction, and what the user decided.
use Rattle.std.specs.Prelude.{ℕ, List, Option, Some, None, Result, Ok, Err, if◌then◌else◌, codes}
use Rattle.std.specs.Str.{bytes_eq}
use Rattle.serde_json.specs.Data.{Data}
use Rattle.serde_json.specs.Find.{get}
use Rattle.json_objects.specs.Reading.{◌>>=◌}
use Rattle.gnap_model.specs.declared.rights.Right.{Right}
use Rattle.gnap_model.specs.declared.objects.Verdict.{Verdict}
use Rattle.gnap_model.specs.declared.objects.Verdict.TheVariants as verdicts
use Rattle.gnap_model.specs.declared.objects.DecideRequest.{DecideRequest}
use Rattle.access_rights.specs.Reading.{rights_of}
use Rattle.gnap_objects.specs.declared.fault.ObjectFault.{ObjectFault}
use Rattle.gnap_objects.specs.declared.fault.ObjectFault.TheVariants as faults
use Rattle.gnap_objects.specs.Reading.{optional, text_of, required_text, sized, under, is_too_long}

-- `handle`: any string
unfoldable pub handle_of : Data → Result (List ℕ) ObjectFault
handle_of d = required_text (codes "handle") d

abbrev pub verdict_in : List ℕ → Result Verdict ObjectFault
verdict_in s = if bytes_eq s (codes "grant") then Ok verdicts.Grant
    else (if bytes_eq s (codes "deny") then Ok verdicts.Deny
    else (if bytes_eq s (codes "unknown") then Ok verdicts.Unknown else Err (faults.Wrong (codes "verdict"))))

-- `verdict`: `grant`, `deny` or `unknown`
unfoldable pub verdict_of : Data → Result Verdict ObjectFault
verdict_of d = required_text (codes "verdict") d >>= verdict_in

-- `access`: any number of rights, where it is there
unfoldable pub decided_rights_of : Data → Result (Option (List Right)) ObjectFault
decided_rights_of d = optional (λ a. under (codes "access") (rights_of a)) (get (codes "access") d)

-- `subject`: a string of 1 to 256 bytes, where it is there
unfoldable pub decided_subject_of : Data → Result (Option (List ℕ)) ObjectFault
decided_subject_of d = optional (λ s. text_of (codes "subject") s >>= sized 256 (codes "subject")) (get (codes "subject") d)

-- the compact text of the rights, where there are any, has at most 4,096 bytes
abbrev pub bounded_rights : Option (List Right) → Result (Option (List Right)) ObjectFault
bounded_rights None = Ok None
bounded_rights (Some rights) = if is_too_long rights then Err (faults.TooMany (codes "access")) else Ok (Some rights)

-- a decision of the user
unfoldable pub decide_request_of : Data → Result DecideRequest ObjectFault
decide_request_of d = do
  handle ← handle_of d
  verdict ← verdict_of d
  read ← decided_rights_of d
  subject ← decided_subject_of d
  rights ← bounded_rights read
  Ok (record { handle = handle; verdict = verdict; rights = rights; subject = subject })
