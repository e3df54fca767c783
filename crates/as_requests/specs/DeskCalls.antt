-- What a request asks of the authorization server: a call of its machine, or an answer that needs no state.
use Rattle.std.specs.Prelude.{◌≢◌, ℕ, if◌then◌else◌, List, [], ◌∷◌, Option, Some, None, Result, Ok, Err}
use Rattle.bytes_and_lists.specs.declared.message.Message.{Message}
use Rattle.serde_json.specs.Data.{Data}
use Rattle.structured_fields.specs.Named.{value_at}
use Rattle.json_objects.specs.declared.body.BodyFault.{BodyFault}
use Rattle.json_objects.specs.Bodies.{body_of}
use Rattle.gnap_model.specs.declared.objects.ErrorCode.TheVariants.{InvalidClient}
use Rattle.gnap_model.specs.declared.objects.Setup.{Setup}
use Rattle.gnap_objects.specs.declared.call_reading.CallKind.{CallKind}
use Rattle.gnap_objects.specs.declared.call_reading.CallOrRefusal.{CallOrRefusal}
use Rattle.gnap_objects.specs.declared.call_reading.CallOrRefusal.TheVariants.{Accepted, Refused}
use Rattle.gnap_objects.specs.CallReading.{Body, NoBody, ObjectBody, NoObject, call_of, stranger}
use Rattle.signed_calls.specs.declared.signed.Mark.{Mark}
use Rattle.signed_calls.specs.Marks.{unmarked_lapse}
use Rattle.grant_machine.specs.Gnap.{SignedFits}
use Rattle.as_requests.specs.declared.routes.Route.{Route}
use Rattle.as_requests.specs.declared.routes.Purpose.{Purpose}
use Rattle.as_requests.specs.declared.routes.Purpose.TheVariants as purpose
use Rattle.as_requests.specs.declared.desk_calls.DirectAnswer.TheVariants as direct
use Rattle.as_requests.specs.declared.desk_calls.RequestStep.{RequestStep}
use Rattle.as_requests.specs.declared.desk_calls.RequestStep.TheVariants.{Direct, Ask}
use Rattle.as_requests.specs.declared.signers.Signer.{Signer}
use Rattle.as_requests.specs.Signers.{needs_mark, signer}
use Rattle.as_requests.specs.KeyRotations.{named_key, is_signed_by_named}
use Rattle.message_signature.specs.Components.{target_path}
use Rattle.as_requests.specs.Routes.{route_at, methods_of}
use Rattle.as_requests.specs.Presented.{presented_value}

-- the body as a call's reader takes it
abbrev pub object_or_none : Result Data BodyFault → Body
object_or_none (Ok d) = ObjectBody d
object_or_none (Err fault) = NoObject

abbrev pub message_body : List ℕ → Body
message_body [] = NoBody
message_body (byte ∷ bytes) = object_or_none (body_of (byte ∷ bytes))

-- a call is asked with the mark, and a refusal is answered by its code
abbrev pub step_of : Option Mark → CallOrRefusal → RequestStep
step_of mark (Accepted call) = Ask (record { mark = mark; call = call })
step_of mark (Refused code) = Direct (direct.Error code)

-- what one who signed asks; who didn't is a stranger
abbrev pub signed_step : Setup → CallKind → Message → Option Signer → RequestStep
signed_step setup kind m None = step_of None (stranger kind)
signed_step setup kind m (Some signer) = step_of signer.mark (call_of setup kind signer.key (presented_value m) (message_body m.body))

-- A rotation that names a key is asked where that key signed too (RFC 9635, section 6.1.1). All that is refused without it stays so.
abbrev pub rotation_step : Setup → Message → ℕ → RequestStep → RequestStep
rotation_step setup m moment (Direct answer) = Direct answer
rotation_step setup m moment (Ask signed) =
    if is_signed_by_named setup m moment (named_key signed.call) then Ask signed else Direct (direct.Error InvalidClient)

abbrev pub method_step : Setup → Message → ℕ → Route → Option Purpose → RequestStep
method_step setup m moment route None = Direct (direct.NotAllowed route)
method_step setup m moment route (Some purpose.Discovery) = Direct direct.Discovery
method_step setup m moment route (Some purpose.RsDiscovery) = Direct direct.RsDiscovery
method_step setup m moment route (Some (purpose.Calls kind)) =
    rotation_step setup m moment (signed_step setup kind m (signer setup (needs_mark kind) m moment))

abbrev pub route_step : Setup → Message → ℕ → Option Route → RequestStep
route_step setup m moment None = Direct direct.NotFound
route_step setup m moment (Some route) = method_step setup m moment route (value_at (methods_of route) m.method)

-- What the message asks at this moment, in seconds since 1970.
unfoldable pub desk_call : Setup → Message → ℕ → RequestStep
desk_call setup m moment = route_step setup m moment (route_at (target_path m.target))

-- the machine takes the call, which isn't its lapse
abbrev pub IsAskable : RequestStep → Type 0
IsAskable (Direct answer) = Unit {0}
IsAskable (Ask signed) = SignedFits signed × (signed ≢ unmarked_lapse)
