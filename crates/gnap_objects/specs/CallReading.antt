-- The call that a key makes: from the key's role on, up to the call or the code of the error with which it is refused.
use Rattle.std.specs.Prelude.{◌≡◌, ◌≢◌, ℕ, List, Bool, true, false, Option, Some, None, Result, Ok, Err, if◌then◌else◌}
use Rattle.serde_json.specs.Data.{Data}
use Rattle.serde_json.specs.View.{view}
use Rattle.json_objects.specs.Bodies.{IsBody}
use Rattle.gnap_model.specs.Common.{Text, is_text, same_text}
use Rattle.gnap_model.specs.Keys.{key_of}
use Rattle.gnap_model.specs.Legal.{HasFewAsks}
use Rattle.gnap_model.specs.declared.objects.Role.{Role}
use Rattle.gnap_model.specs.declared.objects.Role.TheVariants as role
use Rattle.gnap_model.specs.declared.objects.KeyRow.{KeyRow}
use Rattle.gnap_model.specs.declared.objects.Setup.{Setup}
use Rattle.gnap_model.specs.declared.objects.ContinueRequest.{ContinueRequest}
use Rattle.gnap_model.specs.declared.objects.IntrospectRequest.{IntrospectRequest}
use Rattle.gnap_model.specs.declared.objects.DecideRequest.{DecideRequest}
use Rattle.gnap_model.specs.declared.objects.ErrorCode.{ErrorCode}
use Rattle.gnap_model.specs.declared.objects.ErrorCode.TheVariants.{InvalidRequest, InvalidClient, InvalidFlag, InvalidResourceServer}
use Rattle.gnap_model.specs.declared.calls.Call.{Call}
use Rattle.gnap_model.specs.declared.calls.Call.TheVariants as calls
use Rattle.gnap_objects.specs.declared.fault.ObjectFault.{ObjectFault}
use Rattle.gnap_objects.specs.declared.fault.ObjectFault.TheVariants as object
use Rattle.gnap_objects.specs.declared.grants.GrantBody.{GrantBody}
use Rattle.gnap_objects.specs.declared.call_reading.BodyForm.{BodyForm}
use Rattle.gnap_objects.specs.declared.call_reading.BodyForm.TheVariants as forms
use Rattle.gnap_objects.specs.declared.call_reading.CallKind.{CallKind}
use Rattle.gnap_objects.specs.declared.call_reading.CallKind.TheVariants.{Begin, Continue, Modify, Cancel, Rotate, Revoke, Introspect, Look, FindCode, Decide}
use Rattle.gnap_objects.specs.declared.call_reading.CallOrRefusal.{CallOrRefusal}
use Rattle.gnap_objects.specs.declared.call_reading.CallOrRefusal.TheVariants.{Accepted, Refused}
use Rattle.gnap_objects.specs.declared.call_reading.NoCall.{NoCall}
use Rattle.gnap_objects.specs.declared.call_reading.NoCall.TheVariants as nothing
use Rattle.gnap_objects.specs.Grants.{grant_body_of}
use Rattle.gnap_objects.specs.Continuations.{continuation_of, rotation_of}
use Rattle.gnap_objects.specs.Introspections.{introspection_of}
use Rattle.gnap_objects.specs.UserCodes.{user_code_of}
use Rattle.gnap_objects.specs.Decisions.{handle_of, decide_request_of}
use Rattle.gnap_objects.specs.CallsFit.{TextsFit}

-- ---- whose key makes the call

abbrev pub is_client : Role → Bool
is_client role.Client = true
is_client role.Server = false
is_client role.Front = false

abbrev pub is_server : Role → Bool
is_server role.Client = false
is_server role.Server = true
is_server role.Front = false

abbrev pub is_front : Role → Bool
is_front role.Client = false
is_front role.Server = false
is_front role.Front = true

abbrev pub may_call : CallKind → Role → Bool
may_call Begin r = is_client r
may_call Continue r = is_client r
may_call Modify r = is_client r
may_call Cancel r = is_client r
may_call Rotate r = is_client r
may_call Revoke r = is_client r
may_call Introspect r = is_server r
may_call Look r = is_front r
may_call FindCode r = is_front r
may_call Decide r = is_front r

abbrev pub is_caller : CallKind → Option KeyRow → Bool
is_caller kind None = false
is_caller kind (Some key) = may_call kind key.role

-- the refusal of one who isn't who the call names, or whose key it can't come from (RFC 9635, section 3.6; RFC 9767, section 3.3)
abbrev pub stranger : CallKind → CallOrRefusal
stranger Begin = Refused InvalidClient
stranger Continue = Refused InvalidClient
stranger Modify = Refused InvalidClient
stranger Cancel = Refused InvalidClient
stranger Rotate = Refused InvalidClient
stranger Revoke = Refused InvalidClient
stranger Introspect = Refused InvalidResourceServer
stranger Look = Refused InvalidClient
stranger FindCode = Refused InvalidClient
stranger Decide = Refused InvalidClient

-- ---- the body

-- the body of a call: none, a JSON object, or something else
pub data Body : Type 0 where
  NoBody : Body
  ObjectBody : Data → Body
  NoObject : Body

abbrev pub body_in : BodyForm → Body
body_in forms.Absent = NoBody
body_in (forms.Object value) = ObjectBody (view value.now)
body_in forms.NotOfForm = NoObject

-- the call of a body that has to be an object
abbrev pub with_object : (Data → CallOrRefusal) → Body → CallOrRefusal
with_object call NoBody = Refused InvalidRequest
with_object call (ObjectBody d) = call d
with_object call NoObject = Refused InvalidRequest

-- the call of a body that is an object or absent
abbrev pub with_or_without : (Option Data → CallOrRefusal) → Body → CallOrRefusal
with_or_without call NoBody = call None
with_or_without call (ObjectBody d) = call (Some d)
with_or_without call NoObject = Refused InvalidRequest

-- the object can be read
abbrev pub IsReadable : BodyForm → Type 0
IsReadable (forms.Object value) = IsBody (view value.now)
IsReadable forms.Absent = Unit {0}
IsReadable forms.NotOfForm = Unit {0}

-- ---- the calls

-- why a grant request that could be read isn't that client's to make
abbrev pub begin_refusal : Text → GrantBody → Option ErrorCode
begin_refusal key body = if is_text key body.request.client then (if body.repeats_flag then Some InvalidFlag else None) else Some InvalidClient

-- A grant request is for the client that makes it (RFC 9635, section 2.3). That a flag stands twice in it is said to that client alone.
abbrev pub begin_by : Text → Result GrantBody ObjectFault → CallOrRefusal
begin_by key (Err fault) = Refused InvalidRequest
begin_by key (Ok body) = if is_text key body.request.client
    then (if body.repeats_flag then Refused InvalidFlag else Accepted (calls.Begin key body.request None)) else stranger Begin

-- A modification doesn't name its client: the continuation value names the grant (RFC 9635, section 5.3).
abbrev pub modify_by : Text → Text → Result GrantBody ObjectFault → CallOrRefusal
modify_by key value (Err fault) = Refused InvalidRequest
modify_by key value (Ok body) = if body.repeats_flag then Refused InvalidFlag else Accepted (calls.Modify key value body.request)

-- a poll, or the end of an interaction (RFC 9635, sections 5.1 and 5.2)
abbrev pub continue_by : Text → Text → Result ContinueRequest ObjectFault → CallOrRefusal
continue_by key value (Err fault) = Refused InvalidRequest
continue_by key value (Ok request) = Accepted (calls.Continue key value request.reference)

-- a rotation, to another key where one is named (RFC 9635, section 6.1)
abbrev pub rotate_by : Text → Text → Result (Option Text) ObjectFault → CallOrRefusal
rotate_by key value (Err fault) = Refused InvalidRequest
rotate_by key value (Ok new_key) = Accepted (calls.Rotate key value new_key)

-- an introspection is for the resource server that makes it (RFC 9767, section 3.3)
abbrev pub introspect_by : Text → Result IntrospectRequest ObjectFault → CallOrRefusal
introspect_by key (Err fault) = Refused InvalidRequest
introspect_by key (Ok request) = if same_text request.server key
    then Accepted (calls.Introspect key request.value request.binding request.wanted) else stranger Introspect

-- a look of the consent front at the interaction of a handle (RFC 9635, section 4.1)
abbrev pub look_by : Text → Result Text ObjectFault → CallOrRefusal
look_by key (Err fault) = Refused InvalidRequest
look_by key (Ok handle) = Accepted (calls.Look key handle)

-- its search for the interaction of a user code (RFC 9635, section 4.1.2)
abbrev pub find_code_by : Text → Result (List ℕ) ObjectFault → CallOrRefusal
find_code_by key (Err fault) = Refused InvalidRequest
find_code_by key (Ok code) = Accepted (calls.FindCode key code)

-- the user's decision, which it hands in (RFC 9635, section 4)
abbrev pub decide_by : Text → Result DecideRequest ObjectFault → CallOrRefusal
decide_by key (Err fault) = Refused InvalidRequest
decide_by key (Ok request) = Accepted (calls.Decide key request)

-- The call of one who may make it. The body of a cancellation and of a revocation isn't looked at (RFC 9635, sections 5.4 and 6.2).
abbrev pub caller_call : CallKind → Text → Text → Body → CallOrRefusal
caller_call Begin key value body = with_object (λ d. begin_by key (grant_body_of false d)) body
caller_call Continue key value body = with_or_without (λ o. continue_by key value (continuation_of o)) body
caller_call Modify key value body = with_object (λ d. modify_by key value (grant_body_of true d)) body
caller_call Cancel key value body = Accepted (calls.Cancel key value)
caller_call Rotate key value body = with_or_without (λ o. rotate_by key value (rotation_of o)) body
caller_call Revoke key value body = Accepted (calls.Revoke key value)
caller_call Introspect key value body = with_object (λ d. introspect_by key (introspection_of d)) body
caller_call Look key value body = with_object (λ d. look_by key (handle_of d)) body
caller_call FindCode key value body = with_object (λ d. find_code_by key (user_code_of d)) body
caller_call Decide key value body = with_object (λ d. decide_by key (decide_request_of d)) body

-- The call by the key of that id, with that presented value and that body. Calls that present nothing don't look at the value.
unfoldable pub call_of : Setup → CallKind → Text → Text → Body → CallOrRefusal
call_of setup kind key value body = if is_caller kind (key_of setup key) then caller_call kind key value body else stranger kind

-- the machine takes the call
abbrev pub MachineTakes : Call → Type 0
MachineTakes call = HasFewAsks call × TextsFit call × (call ≢ calls.Lapse)

abbrev pub IsTaken : CallOrRefusal → Type 0
IsTaken (Accepted call) = MachineTakes call
IsTaken (Refused code) = Unit {0}

-- the answer to a body whose reader met this fault
abbrev pub no_call : ObjectFault → NoCall
no_call object.OutOfMemory = nothing.OutOfMemory
no_call fault = nothing.Refused InvalidRequest

-- the call or the refusal was answered, or memory ran out
abbrev pub IsCallOf : Result Call NoCall → CallOrRefusal → Type 0
IsCallOf (Ok call) expected = expected ≡ Accepted call
IsCallOf (Err (nothing.Refused code)) expected = expected ≡ Refused code
IsCallOf (Err nothing.OutOfMemory) expected = Unit {0}
