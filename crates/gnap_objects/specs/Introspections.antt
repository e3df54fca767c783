-- Introspections (RFC 9767, section 3.3).
use Rattle.std.specs.Prelude.{ℕ, List, Option, Some, None, Result, Ok, Err, if◌then◌else◌, codes}
use Rattle.std.specs.Str.{bytes_eq}
use Rattle.serde_json.specs.Data.{Data}
use Rattle.serde_json.specs.Find.{get}
use Rattle.json_objects.specs.Reading.{◌>>=◌}
use Rattle.gnap_model.specs.declared.rights.Right.{Right}
use Rattle.gnap_model.specs.declared.objects.Binding.{Binding}
use Rattle.gnap_model.specs.declared.objects.Binding.TheVariants.{Httpsig, Bearer}
use Rattle.gnap_model.specs.declared.objects.IntrospectRequest.{IntrospectRequest}
use Rattle.access_rights.specs.Reading.{rights_of}
use Rattle.gnap_objects.specs.declared.fault.ObjectFault.{ObjectFault}
use Rattle.gnap_objects.specs.declared.fault.ObjectFault.TheVariants as faults
use Rattle.gnap_objects.specs.Reading.{required, text_of, key_name_of, under, counted_rights}

-- the way in which the token was presented
abbrev pub binding_in : List ℕ → Result (Option Binding) ObjectFault
binding_in s = if bytes_eq s (codes "httpsig") then Ok (Some Httpsig)
    else (if bytes_eq s (codes "bearer") then Ok (Some Bearer) else Err (faults.Wrong (codes "proof")))

abbrev pub proof_in : Option Data → Result (Option Binding) ObjectFault
proof_in None = Ok None
proof_in (Some d) = text_of (codes "proof") d >>= binding_in

-- `proof`: `httpsig` or `bearer`, where it is there
unfoldable pub proof_of : Data → Result (Option Binding) ObjectFault
proof_of d = proof_in (get (codes "proof") d)

abbrev pub wanted_in : Option Data → Result (Option (List Right)) ObjectFault
wanted_in None = Ok None
wanted_in (Some d) = under (codes "access") (rights_of d) >>= counted_rights (codes "access") >>= λ rights. Ok (Some rights)

-- `access`: 1 to 16 rights, where it is there
unfoldable pub wanted_of : Data → Result (Option (List Right)) ObjectFault
wanted_of d = wanted_in (get (codes "access") d)

-- `access_token`, any string, and `resource_server`, an id or an object with a key's id
unfoldable pub introspection_of : Data → Result IntrospectRequest ObjectFault
introspection_of d = do
  token ← required (codes "access_token") d
  value ← text_of (codes "access_token") token
  binding ← proof_of d
  named ← required (codes "resource_server") d
  server ← key_name_of (codes "resource_server") named
  wanted ← wanted_of d
  Ok (record { value = value; binding = binding; server = server.id; wanted = wanted })
