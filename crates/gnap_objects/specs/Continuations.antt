-- Continuations (RFC 9635, section 5) and rotations of tokens (section 6.1): bodies that may be absent or empty.
use Rattle.std.specs.Prelude.{ℕ, List, Option, option_and_then, Result, Ok, codes}
use Rattle.serde_json.specs.Data.{Data}
use Rattle.serde_json.specs.Find.{get}
use Rattle.json_objects.specs.Reading.{◌>>=◌}
use Rattle.gnap_model.specs.declared.objects.ContinueRequest.{ContinueRequest}
use Rattle.gnap_objects.specs.declared.fault.ObjectFault.{ObjectFault}
use Rattle.gnap_objects.specs.Reading.{optional, text_of, id_of}

-- the member of that name, where there is a body and has it
abbrev pub body_member : List ℕ → Option Data → Option Data
body_member name body = option_and_then (get name) body

-- `interact_ref`: any string, where it is there; without it the continuation is a poll
unfoldable pub continuation_of : Option Data → Result ContinueRequest ObjectFault
continuation_of body = optional (text_of (codes "interact_ref")) (body_member (codes "interact_ref") body)
    >>= λ reference. Ok (record { reference = reference })

-- `key`: the id of the key that the token is to be bound to, where it is there
unfoldable pub rotation_of : Option Data → Result (Option (List ℕ)) ObjectFault
rotation_of body = optional (id_of (codes "key")) (body_member (codes "key") body)
