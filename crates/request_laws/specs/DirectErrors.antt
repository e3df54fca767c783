-- Why a request is answered with an error at once, so that the state isn't asked (RFC 9635, section 3.6; RFC 9767, section 3.5).
use Rattle.std.specs.Prelude.{◌≡◌, ◌≢◌, ◌⊎◌, ℕ, true, false, Option, Some, None, Result, Ok, Err}
use Rattle.bytes_and_lists.specs.declared.message.Message.{Message}
use Rattle.serde_json.specs.Data.{Data}
use Rattle.structured_fields.specs.Named.{value_at}
use Rattle.gnap_model.specs.Common.{Text, is_text, same_text}
use Rattle.gnap_model.specs.Keys.{key_of}
use Rattle.gnap_model.specs.declared.objects.ErrorCode.{ErrorCode}
use Rattle.gnap_model.specs.declared.objects.ErrorCode.TheVariants.{InvalidRequest, InvalidClient, InvalidFlag, InvalidResourceServer}
use Rattle.gnap_model.specs.declared.objects.Setup.{Setup}
use Rattle.gnap_model.specs.declared.calls.Call.TheVariants as calls
use Rattle.gnap_objects.specs.declared.fault.ObjectFault.{ObjectFault}
use Rattle.gnap_objects.specs.declared.call_reading.CallKind.{CallKind}
use Rattle.gnap_objects.specs.declared.call_reading.CallKind.TheVariants.{Begin, Continue, Modify, Cancel, Rotate, Revoke, Introspect, Look, FindCode, Decide}
use Rattle.gnap_objects.specs.Grants.{grant_body_of}
use Rattle.gnap_objects.specs.Continuations.{continuation_of, rotation_of}
use Rattle.gnap_objects.specs.Introspections.{introspection_of}
use Rattle.gnap_objects.specs.UserCodes.{user_code_of}
use Rattle.gnap_objects.specs.Decisions.{handle_of, decide_request_of}
use Rattle.gnap_objects.specs.CallReading.{Body, NoBody, ObjectBody, NoObject, is_caller}
use Rattle.signed_calls.specs.declared.signed.Mark.{Mark}
use Rattle.as_requests.specs.declared.routes.Route.{Route}
use Rattle.as_requests.specs.declared.routes.Purpose.TheVariants as purpose
use Rattle.as_requests.specs.declared.desk_calls.DirectAnswer.TheVariants as direct
use Rattle.as_requests.specs.declared.desk_calls.RequestStep.TheVariants.{Direct, Ask}
use Rattle.as_requests.specs.declared.signers.Signer.{Signer}
use Rattle.message_signature.specs.Components.{target_path}
use Rattle.as_requests.specs.Routes.{route_at, methods_of}
use Rattle.as_requests.specs.Signers.{needs_mark, signer}
use Rattle.as_requests.specs.KeyRotations.{is_signed_by_named}
use Rattle.as_requests.specs.DeskCalls.{message_body, signed_step, desk_call}

-- ---- what the causes speak of

-- a route has the message's path, and its method there is for this call
pub record IsFor (m : Message) (kind : CallKind) : Type 0 where
  pub route : Route
  pub path_is : route_at (target_path m.target) ≡ Some route
  pub method_is : value_at (methods_of route) m.method ≡ Some (purpose.Calls kind)

-- a signature passes, and it has the mark that the call needs
abbrev pub IsSignedBy : Setup → CallKind → Message → ℕ → Signer → Type 0
IsSignedBy setup kind m moment who = signer setup (needs_mark kind) m moment ≡ Some who

-- the same, of a key whose role may make the call
abbrev pub IsCalledBy : Setup → CallKind → Message → ℕ → Signer → Type 0
IsCalledBy setup kind m moment who = IsSignedBy setup kind m moment who × (is_caller kind (key_of setup who.key) ≡ true)

-- the body is no object, or one of another form
abbrev pub IsUnreadable : {A : Type 0} → (Data → Result A ObjectFault) → Body → Type 0
IsUnreadable reading NoBody = Unit {0}
IsUnreadable reading (ObjectBody d) = (fault : ObjectFault) × (reading d ≡ Err fault)
IsUnreadable reading NoObject = Unit {0}

-- the same, of a body that may be absent
abbrev pub IsUnreadableIfThere : {A : Type 0} → (Option Data → Result A ObjectFault) → Body → Type 0
IsUnreadableIfThere reading NoBody = (fault : ObjectFault) × (reading None ≡ Err fault)
IsUnreadableIfThere reading (ObjectBody d) = (fault : ObjectFault) × (reading (Some d) ≡ Err fault)
IsUnreadableIfThere reading NoObject = Unit {0}

-- it was read, and this holds of what it reads as
abbrev pub ReadsAs : {A : Type 0} → Result A ObjectFault → (A → Type 0) → Type 0
ReadsAs (Ok x) holds = holds x
ReadsAs (Err fault) holds = ⊥

-- the body isn't of the form that the call asks for
abbrev pub HasOtherForm : CallKind → Body → Type 0
HasOtherForm Begin body = IsUnreadable (grant_body_of false) body
HasOtherForm Continue body = IsUnreadableIfThere continuation_of body
HasOtherForm Modify body = IsUnreadable (grant_body_of true) body
HasOtherForm Cancel body = ⊥
HasOtherForm Rotate body = IsUnreadableIfThere rotation_of body
HasOtherForm Revoke body = ⊥
HasOtherForm Introspect body = IsUnreadable introspection_of body
HasOtherForm Look body = IsUnreadable handle_of body
HasOtherForm FindCode body = IsUnreadable user_code_of body
HasOtherForm Decide body = IsUnreadable decide_request_of body

-- the body is of its form, and is the grant request of another client, or the introspection of another resource server, than the one with this key
abbrev pub NamesAnother : CallKind → Text → Body → Type 0
NamesAnother Begin key body = (d : Data) × (body ≡ ObjectBody d) × ReadsAs (grant_body_of false d) (λ read. is_text key read.request.client ≡ false)
NamesAnother Introspect key body = (d : Data) × (body ≡ ObjectBody d) × ReadsAs (introspection_of d) (λ read. same_text read.server key ≡ false)
NamesAnother _ key body = ⊥

-- a flag of a token request stands twice in the body, and nothing else is at fault
abbrev pub RepeatsFlag : CallKind → Text → Body → Type 0
RepeatsFlag Begin key body = (d : Data) × (body ≡ ObjectBody d)
    × ReadsAs (grant_body_of false d) (λ read. (is_text key read.request.client ≡ true) × (read.repeats_flag ≡ true))
RepeatsFlag Modify key body = (d : Data) × (body ≡ ObjectBody d) × ReadsAs (grant_body_of true d) (λ read. read.repeats_flag ≡ true)
RepeatsFlag _ key body = ⊥

-- ---- the causes

-- Nobody signed as the call needs it; or the signer's key has another role than the call's; or the body names another than the signer.
abbrev pub LacksCaller : Setup → CallKind → Message → ℕ → Type 0
LacksCaller setup kind m moment = (signer setup (needs_mark kind) m moment ≡ None)
    ⊎ (((who : Signer) × IsSignedBy setup kind m moment who × (is_caller kind (key_of setup who.key) ≡ false))
    ⊎ ((who : Signer) × IsCalledBy setup kind m moment who × NamesAnother kind who.key (message_body m.body)))

-- a rotation that could be asked else names a key, and that key didn't sign the message too
abbrev pub LacksNewSigner : Setup → CallKind → Message → ℕ → Type 0
LacksNewSigner setup kind m moment = (mark : Option Mark) × (key : Text) × (value : Text) × (new_key : Text)
    × (signed_step setup kind m (signer setup (needs_mark kind) m moment) ≡ Ask (record { mark = mark; call = calls.Rotate key value (Some new_key) }))
    × (is_signed_by_named setup m moment (Some new_key) ≡ false)

-- What each code takes. No other one is answered at once.
abbrev pub HasDirectCause : Setup → CallKind → Message → ℕ → ErrorCode → Type 0
HasDirectCause setup kind m moment InvalidClient =
    (kind ≢ Introspect) × (LacksCaller setup kind m moment ⊎ LacksNewSigner setup kind m moment)
HasDirectCause setup kind m moment InvalidResourceServer = (kind ≡ Introspect) × LacksCaller setup kind m moment
HasDirectCause setup kind m moment InvalidFlag = (who : Signer) × IsCalledBy setup kind m moment who × RepeatsFlag kind who.key (message_body m.body)
HasDirectCause setup kind m moment InvalidRequest = (who : Signer) × IsCalledBy setup kind m moment who × HasOtherForm kind (message_body m.body)
HasDirectCause setup kind m moment _ = ⊥

-- An error that is answered at once is the answer to a request for a call, and its code has its cause.
abbrev pub DirectErrorsHaveCauses : Type 0
DirectErrorsHaveCauses = (setup : Setup) (m : Message) (moment : ℕ) (code : ErrorCode) → desk_call setup m moment ≡ Direct (direct.Error code)
    → (kind : CallKind) × IsFor m kind × HasDirectCause setup kind m moment code
