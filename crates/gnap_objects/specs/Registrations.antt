-- Sets of rights that resource servers register, and references of them (RFC 9767, section 3.4).
use Rattle.std.specs.Prelude.{List, Result, Ok, Err, if◌then◌else◌, codes}
use Rattle.serde_json.specs.Data.{Data}
use Rattle.json_objects.specs.Reading.{◌>>=◌}
use Rattle.gnap_model.specs.Common.{Text}
use Rattle.gnap_model.specs.declared.rights.Right.{Right}
use Rattle.gnap_objects.specs.declared.fault.ObjectFault.{ObjectFault}
use Rattle.gnap_objects.specs.declared.fault.ObjectFault.TheVariants as faults
use Rattle.gnap_objects.specs.declared.registrations.Registration.{Registration}
use Rattle.gnap_objects.specs.Reading.{required, required_text, key_name_of, rights_under, counted_rights, is_too_long}

-- `access`: 1 to 16 rights, whose compact text has at most 4,096 bytes
unfoldable pub registered_rights_of : Data → Result (List Right) ObjectFault
registered_rights_of d = do
  listed ← rights_under (codes "access") d
  rights ← counted_rights (codes "access") listed
  if is_too_long rights then Err (faults.TooMany (codes "access")) else Ok rights

-- and `resource_server`: an id, or an object with a key's id
unfoldable pub registration_of : Data → Result Registration ObjectFault
registration_of d = do
  rights ← registered_rights_of d
  named ← required (codes "resource_server") d
  server ← key_name_of (codes "resource_server") named
  Ok (record { server = server.id; rights = rights })

-- `resource_reference`: any string
unfoldable pub resolution_of : Data → Result Text ObjectFault
resolution_of d = required_text (codes "resource_reference") d
