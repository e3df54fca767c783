-- What a request asks of the server of resource sets: a call of its machine, or an answer that needs no state.
use Rattle.std.specs.Prelude.{◌≢◌, ℕ, List, Bool, false, ◌||◌, Option, Some, None, Result, Ok, Err, if◌then◌else◌, codes}
use Rattle.std.specs.Str.{bytes_eq}
use Rattle.bytes_and_lists.specs.declared.message.Message.{Message}
use Rattle.serde_json.specs.Data.{Data}
use Rattle.json_objects.specs.declared.body.BodyFault.{BodyFault}
use Rattle.json_objects.specs.Bodies.{body_of}
use Rattle.gnap_model.specs.Common.{Text, same_text}
use Rattle.gnap_model.specs.Keys.{key_of}
use Rattle.gnap_model.specs.declared.objects.Role.{Role}
use Rattle.gnap_model.specs.declared.objects.KeyRow.{KeyRow}
use Rattle.gnap_model.specs.declared.objects.Setup.{Setup}
use Rattle.gnap_model.specs.declared.objects.ErrorCode.{ErrorCode}
use Rattle.gnap_model.specs.declared.objects.ErrorCode.TheVariants.{InvalidRequest, InvalidResourceServer}
use Rattle.gnap_objects.specs.declared.fault.ObjectFault.{ObjectFault}
use Rattle.gnap_objects.specs.declared.registrations.Registration.{Registration}
use Rattle.gnap_objects.specs.CallReading.{is_server, is_front}
use Rattle.gnap_objects.specs.Registrations.{registration_of, resolution_of}
use Rattle.message_signature.specs.Components.{target_path}
use Rattle.as_requests.specs.declared.signers.Signer.{Signer}
use Rattle.as_requests.specs.Signers.{signer}
use Rattle.resource_sets.specs.declared.sets.SetCall.TheVariants.{Register, Resolve, Lapse}
use Rattle.resource_sets.specs.Sets.{SetFits}
use Rattle.rs_facing.specs.declared.set_requests.SetRoute.{SetRoute}
use Rattle.rs_facing.specs.declared.set_requests.SetRoute.TheVariants as routes
use Rattle.rs_facing.specs.declared.set_requests.SetAnswer.TheVariants as answer
use Rattle.rs_facing.specs.declared.set_requests.SetStep.{SetStep}
use Rattle.rs_facing.specs.declared.set_requests.SetStep.TheVariants.{Direct, Ask}

abbrev pub set_route_at : List ℕ → Option SetRoute
set_route_at path = if bytes_eq path (codes "/resource") then Some routes.Registration
    else (if bytes_eq path (codes "/resolve") then Some routes.Resolution else None)

-- a resource server may register sets, and the consent front too may ask what a reference means
abbrev pub role_may_ask : SetRoute → Role → Bool
role_may_ask routes.Registration role = is_server role
role_may_ask routes.Resolution role = is_server role || is_front role

abbrev pub may_ask : SetRoute → Option KeyRow → Bool
may_ask route None = false
may_ask route (Some key) = role_may_ask route key.role

abbrev pub refused : ErrorCode → SetStep
refused code = Direct (answer.Error code)

-- a set is registered by the server whose it is said to be
abbrev pub registered_by : Text → Result Registration ObjectFault → SetStep
registered_by key (Err fault) = refused InvalidRequest
registered_by key (Ok r) = if same_text r.server key then Ask (Register key r.rights) else refused InvalidResourceServer

abbrev pub resolved_by : Text → Result Text ObjectFault → SetStep
resolved_by key (Err fault) = refused InvalidRequest
resolved_by key (Ok reference) = Ask (Resolve key reference)

abbrev pub object_step : SetRoute → Text → Data → SetStep
object_step routes.Registration key d = registered_by key (registration_of d)
object_step routes.Resolution key d = resolved_by key (resolution_of d)

abbrev pub body_step : SetRoute → Text → Result Data BodyFault → SetStep
body_step route key (Err fault) = refused InvalidRequest
body_step route key (Ok d) = object_step route key d

-- who may not ask, or didn't sign, is no resource server here (RFC 9767, section 3.5)
abbrev pub key_step : Setup → SetRoute → Text → Result Data BodyFault → SetStep
key_step setup route key body = if may_ask route (key_of setup key) then body_step route key body else refused InvalidResourceServer

abbrev pub signed_step : Setup → SetRoute → Message → Option Signer → SetStep
signed_step setup route m None = refused InvalidResourceServer
signed_step setup route m (Some signer) = key_step setup route signer.key (body_of m.body)

-- No mark is needed: a registration that is sent again changes nothing.
abbrev pub method_step : Setup → SetRoute → Message → ℕ → SetStep
method_step setup route m moment =
    if bytes_eq m.method (codes "POST") then signed_step setup route m (signer setup false m moment) else Direct answer.NotAllowed

abbrev pub route_step : Setup → Message → ℕ → Option SetRoute → SetStep
route_step setup m moment None = Direct answer.NotFound
route_step setup m moment (Some route) = method_step setup route m moment

-- What the message asks at this moment, in seconds since 1970 (RFC 9767, section 3.4).
unfoldable pub set_call : Setup → Message → ℕ → SetStep
set_call setup m moment = route_step setup m moment (set_route_at (target_path m.target))

-- the machine takes the call, which isn't its lapse
abbrev pub IsAskableSet : SetStep → Type 0
IsAskableSet (Direct answer) = Unit {0}
IsAskableSet (Ask call) = SetFits call × (call ≢ Lapse)
