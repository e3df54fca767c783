-- An error that is answered at once has its cause: each way on which a request is refused is gone through.
use Rattle.std.proofs.Common.{◌≡◌, ◌≢◌, ℕ, Bool, true, false, Option, Some, None, Result, Ok, Err, refl, sym, ap, subst, ◌∙◌, inl, inr}
use Rattle.std.specs.Prelude.{List, if◌then◌else◌}
use Rattle.bytes_and_lists.specs.declared.message.Message.{Message}
use Rattle.structured_fields.specs.Named.{value_at}
use Rattle.gnap_model.specs.Common.{Text, is_text, same_text}
use Rattle.gnap_model.specs.Keys.{key_of}
use Rattle.gnap_model.specs.declared.rights.Right.{Right}
use Rattle.gnap_model.specs.declared.objects.Binding.{Binding}
use Rattle.gnap_model.specs.declared.objects.IntrospectRequest.{IntrospectRequest}
use Rattle.gnap_model.specs.declared.objects.ErrorCode.{ErrorCode}
use Rattle.gnap_model.specs.declared.objects.ErrorCode.TheVariants.{InvalidRequest, InvalidClient, InvalidFlag, InvalidResourceServer}
use Rattle.gnap_model.specs.declared.objects.Setup.{Setup}
use Rattle.gnap_model.specs.declared.calls.Call.{Call}
use Rattle.gnap_model.specs.declared.calls.Call.TheVariants as calls
use Rattle.gnap_objects.specs.declared.fault.ObjectFault.{ObjectFault}
use Rattle.gnap_objects.specs.declared.call_reading.CallKind.{CallKind}
use Rattle.gnap_objects.specs.declared.call_reading.CallKind.TheVariants.{Begin, Continue, Modify, Cancel, Rotate, Revoke, Introspect, Look, FindCode, Decide}
use Rattle.gnap_objects.specs.declared.call_reading.CallOrRefusal.{CallOrRefusal}
use Rattle.gnap_objects.specs.declared.call_reading.CallOrRefusal.TheVariants.{Accepted, Refused}
use Rattle.gnap_objects.specs.Grants.{grant_body_of}
use Rattle.gnap_objects.specs.Continuations.{continuation_of, rotation_of}
use Rattle.gnap_objects.specs.Introspections.{introspection_of}
use Rattle.gnap_objects.specs.UserCodes.{user_code_of}
use Rattle.gnap_objects.specs.Decisions.{handle_of, decide_request_of}
use Rattle.gnap_objects.specs.CallReading.{Body, NoBody, ObjectBody, NoObject, is_caller, stranger}
use Rattle.gnap_objects.specs.CallReading.{begin_by, modify_by, continue_by, rotate_by, introspect_by, look_by, find_code_by, decide_by, caller_call, call_of}
use Rattle.signed_calls.specs.declared.signed.Mark.{Mark}
use Rattle.as_requests.specs.declared.routes.Route.{Route}
use Rattle.as_requests.specs.declared.routes.Purpose.{Purpose}
use Rattle.as_requests.specs.declared.routes.Purpose.TheVariants as purpose
use Rattle.as_requests.specs.declared.desk_calls.DirectAnswer.TheVariants as direct
use Rattle.as_requests.specs.declared.desk_calls.RequestStep.{RequestStep}
use Rattle.as_requests.specs.declared.desk_calls.RequestStep.TheVariants.{Direct, Ask}
use Rattle.as_requests.specs.declared.signers.Signer.{Signer}
use Rattle.message_signature.specs.Components.{target_path}
use Rattle.as_requests.specs.Routes.{route_at, methods_of}
use Rattle.as_requests.specs.Presented.{presented_value}
use Rattle.as_requests.specs.Signers.{needs_mark, signer}
use Rattle.as_requests.specs.KeyRotations.{named_key, is_signed_by_named}
use Rattle.as_requests.specs.DeskCalls.{message_body, step_of, signed_step, rotation_step, method_step, route_step, desk_call}
use Rattle.request_laws.specs.DirectErrors.{IsFor, IsCalledBy, ReadsAs, HasOtherForm, NamesAnother, RepeatsFlag, LacksCaller, HasDirectCause, DirectErrorsHaveCauses}

-- ---- what one who may make the call is refused for

-- the cause of a refusal, of the body alone
abbrev pub BodyCause : CallKind → Text → Body → ErrorCode → Type 0
BodyCause kind key body InvalidClient = (kind ≢ Introspect) × NamesAnother kind key body
BodyCause kind key body InvalidResourceServer = (kind ≡ Introspect) × NamesAnother kind key body
BodyCause kind key body InvalidFlag = RepeatsFlag kind key body
BodyCause kind key body InvalidRequest = HasOtherForm kind body
BodyCause kind key body _ = ⊥

-- the code that was answered is the one that has the cause
told : (kind : CallKind) (key : Text) (body : Body) (found code : ErrorCode) → Refused found ≡ Refused code → BodyCause kind key body found
    → BodyCause kind key body code
told kind key body found code e cause = let same : found ≡ code = cc in subst (BodyCause kind key body) same cause

-- what a reader answers, either way
read_cases : {A : Type 0} {Goal : Type 0} (r : Result A ObjectFault) → ((fault : ObjectFault) → r ≡ Err fault → Goal) → ((x : A) → r ≡ Ok x → Goal) → Goal
read_cases (Ok x) refused read = read x refl
read_cases (Err fault) refused read = refused fault refl

reads_as : {A : Type 0} (r : Result A ObjectFault) (x : A) (holds : A → Type 0) → r ≡ Ok x → holds x → ReadsAs r holds
reads_as r x holds is it_holds = subst (λ s. ReadsAs s holds) (sym is) it_holds

begin_refused : (key : Text) (code : ErrorCode) (call : Call) (named twice : Bool) {Goal : Type 0}
    → (if named then (if twice then Refused InvalidFlag else Accepted call) else Refused InvalidClient) ≡ Refused code
    → (named ≡ true → twice ≡ true → Refused InvalidFlag ≡ Refused code → Goal) → (named ≡ false → Refused InvalidClient ≡ Refused code → Goal) → Goal
begin_refused key code call true true e flag client = flag refl refl e
begin_refused key code call true false e flag client = absurd cc
begin_refused key code call false twice e flag client = client refl e

modify_refused : (code : ErrorCode) (call : Call) (twice : Bool) → (if twice then Refused InvalidFlag else Accepted call) ≡ Refused code
    → (twice ≡ true) × (Refused InvalidFlag ≡ Refused code)
modify_refused code call true e = (refl, e)
modify_refused code call false e = absurd cc

introspect_refused : (code : ErrorCode) (call : Call) (named : Bool) → (if named then Accepted call else Refused InvalidResourceServer) ≡ Refused code
    → (named ≡ false) × (Refused InvalidResourceServer ≡ Refused code)
introspect_refused code call true e = absurd cc
introspect_refused code call false e = (refl, e)

-- a call whose reader's fault is its one refusal: its body has another form
fault_refused : {A : Type 0} (call : Result A ObjectFault → CallOrRefusal) → ((fault : ObjectFault) → call (Err fault) ≡ Refused InvalidRequest)
    → ((x : A) → (code : ErrorCode) → call (Ok x) ≡ Refused code → ⊥)
    → (r read : Result A ObjectFault) (code : ErrorCode) → r ≡ read → call read ≡ Refused code
    → ((fault : ObjectFault) × (r ≡ Err fault)) × (Refused InvalidRequest ≡ Refused code)
fault_refused call refused taken r (Err fault) code is e = ((fault, is), sym (refused fault) ∙ e)
fault_refused call refused taken r (Ok x) code is e = absurd (taken x code e)

pub body_refused : (kind : CallKind) (key value : Text) (body : Body) (code : ErrorCode) → caller_call kind key value body ≡ Refused code
    → BodyCause kind key body code
body_refused Begin key value NoBody code e = told Begin key NoBody InvalidRequest code e tt
body_refused Begin key value (ObjectBody d) code e = read_cases (grant_body_of false d)
    (λ fault is. told Begin key (ObjectBody d) InvalidRequest code (subst (λ r. begin_by key r ≡ Refused code) is e) (fault, is))
    (λ read is. begin_refused key code (calls.Begin key read.request None) (is_text key read.request.client) read.repeats_flag
    (subst (λ r. begin_by key r ≡ Refused code) is e)
    (λ named twice same. told Begin key (ObjectBody d) InvalidFlag code same (d, refl, reads_as (grant_body_of false d) read _ is (named, twice)))
    (λ other same. told Begin key (ObjectBody d) InvalidClient code same
    ((λ kind. cc), (d, refl, reads_as (grant_body_of false d) read _ is other))))
body_refused Begin key value NoObject code e = told Begin key NoObject InvalidRequest code e tt
body_refused Continue key value NoBody code e =
    let found = fault_refused (continue_by key value) (λ fault. refl) (λ x code e. cc) (continuation_of None) (continuation_of None) code refl e in
    told Continue key NoBody InvalidRequest code found.1 found.0
body_refused Continue key value (ObjectBody d) code e =
    let found = fault_refused (continue_by key value) (λ fault. refl) (λ x code e. cc) (continuation_of (Some d)) (continuation_of (Some d)) code refl e in
    told Continue key (ObjectBody d) InvalidRequest code found.1 found.0
body_refused Continue key value NoObject code e = told Continue key NoObject InvalidRequest code e tt
body_refused Modify key value NoBody code e = told Modify key NoBody InvalidRequest code e tt
body_refused Modify key value (ObjectBody d) code e = read_cases (grant_body_of true d)
    (λ fault is. told Modify key (ObjectBody d) InvalidRequest code (subst (λ r. modify_by key value r ≡ Refused code) is e) (fault, is))
    (λ read is.
    let twice = modify_refused code (calls.Modify key value read.request) read.repeats_flag (subst (λ r. modify_by key value r ≡ Refused code) is e) in
    told Modify key (ObjectBody d) InvalidFlag code twice.1 (d, refl, reads_as (grant_body_of true d) read _ is twice.0))
body_refused Modify key value NoObject code e = told Modify key NoObject InvalidRequest code e tt
body_refused Cancel key value body code e = absurd cc
body_refused Rotate key value NoBody code e =
    let found = fault_refused (rotate_by key value) (λ fault. refl) (λ x code e. cc) (rotation_of None) (rotation_of None) code refl e in
    told Rotate key NoBody InvalidRequest code found.1 found.0
body_refused Rotate key value (ObjectBody d) code e =
    let found = fault_refused (rotate_by key value) (λ fault. refl) (λ x code e. cc) (rotation_of (Some d)) (rotation_of (Some d)) code refl e in
    told Rotate key (ObjectBody d) InvalidRequest code found.1 found.0
body_refused Rotate key value NoObject code e = told Rotate key NoObject InvalidRequest code e tt
body_refused Revoke key value body code e = absurd cc
body_refused Introspect key value NoBody code e = told Introspect key NoBody InvalidRequest code e tt
body_refused Introspect key value (ObjectBody d) code e = read_cases (introspection_of d)
    (λ fault is. told Introspect key (ObjectBody d) InvalidRequest code (subst (λ r. introspect_by key r ≡ Refused code) is e) (fault, is))
    (λ read is.
    let other = introspect_refused code (calls.Introspect key read.value read.binding read.wanted) (same_text read.server key)
    (subst (λ r. introspect_by key r ≡ Refused code) is e) in
    told Introspect key (ObjectBody d) InvalidResourceServer code other.1 (refl, (d, refl, reads_as (introspection_of d) read _ is other.0)))
body_refused Introspect key value NoObject code e = told Introspect key NoObject InvalidRequest code e tt
body_refused Look key value NoBody code e = told Look key NoBody InvalidRequest code e tt
body_refused Look key value (ObjectBody d) code e =
    let found = fault_refused (look_by key) (λ fault. refl) (λ x code e. cc) (handle_of d) (handle_of d) code refl e in
    told Look key (ObjectBody d) InvalidRequest code found.1 found.0
body_refused Look key value NoObject code e = told Look key NoObject InvalidRequest code e tt
body_refused FindCode key value NoBody code e = told FindCode key NoBody InvalidRequest code e tt
body_refused FindCode key value (ObjectBody d) code e =
    let found = fault_refused (find_code_by key) (λ fault. refl) (λ x code e. cc) (user_code_of d) (user_code_of d) code refl e in
    told FindCode key (ObjectBody d) InvalidRequest code found.1 found.0
body_refused FindCode key value NoObject code e = told FindCode key NoObject InvalidRequest code e tt
body_refused Decide key value NoBody code e = told Decide key NoBody InvalidRequest code e tt
body_refused Decide key value (ObjectBody d) code e =
    let found = fault_refused (decide_by key) (λ fault. refl) (λ x code e. cc) (decide_request_of d) (decide_request_of d) code refl e in
    told Decide key (ObjectBody d) InvalidRequest code found.1 found.0
body_refused Decide key value NoObject code e = told Decide key NoObject InvalidRequest code e tt

-- ---- the whole request

module _ (setup : Setup) (m : Message) (moment : ℕ) where
  -- the cause of the code that was answered
  abbrev Cause : CallKind → ErrorCode → Type 0
  Cause kind code = HasDirectCause setup kind m moment code

  answered : (kind : CallKind) (found code : ErrorCode) → Direct (direct.Error found) ≡ Direct (direct.Error code) → Cause kind found → Cause kind code
  answered kind found code e cause = let same : found ≡ code = cc in subst (Cause kind) same cause

  stranger_refused : (kind : CallKind) (code : ErrorCode) (mark : Option Mark) → step_of mark (stranger kind) ≡ Direct (direct.Error code)
      → LacksCaller setup kind m moment → Cause kind code
  stranger_refused Begin code mark e lacks = answered Begin InvalidClient code e ((λ same. cc), inl lacks)
  stranger_refused Continue code mark e lacks = answered Continue InvalidClient code e ((λ same. cc), inl lacks)
  stranger_refused Modify code mark e lacks = answered Modify InvalidClient code e ((λ same. cc), inl lacks)
  stranger_refused Cancel code mark e lacks = answered Cancel InvalidClient code e ((λ same. cc), inl lacks)
  stranger_refused Rotate code mark e lacks = answered Rotate InvalidClient code e ((λ same. cc), inl lacks)
  stranger_refused Revoke code mark e lacks = answered Revoke InvalidClient code e ((λ same. cc), inl lacks)
  stranger_refused Introspect code mark e lacks = answered Introspect InvalidResourceServer code e (refl, lacks)
  stranger_refused Look code mark e lacks = answered Look InvalidClient code e ((λ same. cc), inl lacks)
  stranger_refused FindCode code mark e lacks = answered FindCode InvalidClient code e ((λ same. cc), inl lacks)
  stranger_refused Decide code mark e lacks = answered Decide InvalidClient code e ((λ same. cc), inl lacks)

  -- the body's cause is the request's, where its caller signed it
  by_body : (kind : CallKind) (who : Signer) (code : ErrorCode) → IsCalledBy setup kind m moment who → BodyCause kind who.key (message_body m.body) code
      → Cause kind code
  by_body kind who InvalidClient called cause = (cause.0, inl (inr (inr (who, called, cause.1))))
  by_body kind who InvalidResourceServer called cause = (cause.0, inr (inr (who, called, cause.1)))
  by_body kind who InvalidFlag called cause = (who, called, cause)
  by_body kind who InvalidRequest called cause = (who, called, cause)
  by_body kind who _ called cause = absurd cause

  signed_refused : (kind : CallKind) (code : ErrorCode) (o : Option Signer) → signer setup (needs_mark kind) m moment ≡ o
      → signed_step setup kind m o ≡ Direct (direct.Error code) → Cause kind code
  unfolding call_of
  signed_refused kind code None is e = stranger_refused kind code None e (inl is)
  signed_refused kind code (Some who) is e = by (is_caller kind (key_of setup who.key)) refl e
    where
      by_answer : IsCalledBy setup kind m moment who → (answer : CallOrRefusal)
          → caller_call kind who.key (presented_value m) (message_body m.body) ≡ answer → step_of who.mark answer ≡ Direct (direct.Error code) → Cause kind code
      by_answer called (Accepted call) made e = absurd cc
      by_answer called (Refused found) made e =
          answered kind found code e (by_body kind who found called (body_refused kind who.key (presented_value m) (message_body m.body) found made))

      by : (b : Bool) → is_caller kind (key_of setup who.key) ≡ b
          → step_of who.mark (if b then caller_call kind who.key (presented_value m) (message_body m.body) else stranger kind) ≡ Direct (direct.Error code)
          → Cause kind code
      by true role e = by_answer (is, role) (caller_call kind who.key (presented_value m) (message_body m.body)) refl e
      by false role e = stranger_refused kind code who.mark e (inr (inl (who, is, role)))

  -- ---- a rotation to a key

  -- the answer of a reader asks a rotation
  abbrev IsRotation : Option Mark → Option Mark → Call → CallOrRefusal → Type 0
  IsRotation signed mark call answer = step_of signed answer ≡ Ask (record { mark = mark; call = call })

  -- the call that is asked, or another
  asked_call : Call → RequestStep → Call
  asked_call other (Direct answer) = other
  asked_call other (Ask signed) = signed.call

  no_rotation : (server token : Text) (binding : Option Binding) (wanted : Option (List Right)) (key value : Text) (new_key : Option Text)
      → calls.Introspect server token binding wanted ≡ calls.Rotate key value new_key → ⊥
  no_rotation server token binding wanted key value new_key e = cc

  -- who may ask an introspection asks no rotation
  introspects : (o : Option Signer) (mark : Option Mark) (key value : Text) (new_key : Option Text)
      → signed_step setup Introspect m o ≡ Ask (record { mark = mark; call = calls.Rotate key value new_key }) → ⊥
  unfolding call_of asked_call
  introspects None mark key value new_key e = cc
  introspects (Some who) mark key value new_key e = by (is_caller Introspect (key_of setup who.key)) (message_body m.body) e
    where
      by_server : (read : IntrospectRequest) (b : Bool)
          → IsRotation who.mark mark (calls.Rotate key value new_key)
          (if b then Accepted (calls.Introspect who.key read.value read.binding read.wanted) else Refused InvalidResourceServer) → ⊥
      by_server read true e =
          no_rotation who.key read.value read.binding read.wanted key value new_key (ap (asked_call (calls.Rotate key value new_key)) e)
      by_server read false e = cc

      by_reading : (r : Result IntrospectRequest ObjectFault) → IsRotation who.mark mark (calls.Rotate key value new_key) (introspect_by who.key r) → ⊥
      by_reading (Err fault) e = cc
      by_reading (Ok read) e = by_server read (same_text read.server who.key) e

      by : (b : Bool) (body : Body) → IsRotation who.mark mark (calls.Rotate key value new_key)
          (if b then caller_call Introspect who.key (presented_value m) body else stranger Introspect) → ⊥
      by true NoBody e = cc
      by true (ObjectBody d) e = by_reading (introspection_of d) e
      by true NoObject e = cc
      by false body e = cc

  -- what was signed for the call asks it, with its mark
  abbrev Asks : CallKind → Option Mark → Call → Type 0
  Asks kind mark call = signed_step setup kind m (signer setup (needs_mark kind) m moment) ≡ Ask (record { mark = mark; call = call })

  no_introspection : (kind : CallKind) (mark : Option Mark) (key value : Text) (new_key : Option Text) → Asks kind mark (calls.Rotate key value new_key)
      → kind ≢ Introspect
  no_introspection kind mark key value new_key asks same =
      introspects (signer setup (needs_mark Introspect) m moment) mark key value new_key
      (subst (λ (k : CallKind). Asks k mark (calls.Rotate key value new_key)) same asks)

  unsigned : (kind : CallKind) (code : ErrorCode) (mark : Option Mark) (call : Call) → Asks kind mark call
      → (b : Bool) → is_signed_by_named setup m moment (named_key call) ≡ b
      → (if b then Ask (record { mark = mark; call = call }) else Direct (direct.Error InvalidClient)) ≡ Direct (direct.Error code) → Cause kind code
  unsigned kind code mark call asks true is e = absurd cc
  unsigned kind code mark (calls.Rotate key value (Some new_key)) asks false is e =
      answered kind InvalidClient code e (no_introspection kind mark key value (Some new_key) asks, inr (mark, key, value, new_key, asks, is))
  unsigned kind code mark (calls.Rotate key value None) asks false is e = absurd cc
  unsigned kind code mark _ asks false is e = absurd cc

  rotation_refused : (kind : CallKind) (code : ErrorCode) (step : RequestStep)
      → signed_step setup kind m (signer setup (needs_mark kind) m moment) ≡ step → rotation_step setup m moment step ≡ Direct (direct.Error code)
      → Cause kind code
  rotation_refused kind code (Direct answer) is e = signed_refused kind code (signer setup (needs_mark kind) m moment) refl (is ∙ e)
  rotation_refused kind code (Ask signed) is e =
      unsigned kind code signed.mark signed.call is (is_signed_by_named setup m moment (named_key signed.call)) refl e

  -- ---- by the route

  caused : (code : ErrorCode) → desk_call setup m moment ≡ Direct (direct.Error code) → (kind : CallKind) × IsFor m kind × Cause kind code
  unfolding desk_call
  caused code e = by_route (route_at (target_path m.target)) refl e
    where
      by_purpose : (route : Route) → route_at (target_path m.target) ≡ Some route → (p : Option Purpose) → value_at (methods_of route) m.method ≡ p
          → method_step setup m moment route p ≡ Direct (direct.Error code) → (kind : CallKind) × IsFor m kind × Cause kind code
      by_purpose route path None is e = absurd cc
      by_purpose route path (Some purpose.Discovery) is e = absurd cc
      by_purpose route path (Some purpose.RsDiscovery) is e = absurd cc
      by_purpose route path (Some (purpose.Calls kind)) is e = (
        kind,
        record { route = route; path_is = path; method_is = is },
        rotation_refused kind code (signed_step setup kind m (signer setup (needs_mark kind) m moment)) refl e,
      )

      by_route : (route : Option Route) → route_at (target_path m.target) ≡ route → route_step setup m moment route ≡ Direct (direct.Error code)
          → (kind : CallKind) × IsFor m kind × Cause kind code
      by_route None path e = absurd cc
      by_route (Some route) path e = by_purpose route path (value_at (methods_of route) m.method) refl e

pub direct_errors_have_causes : DirectErrorsHaveCauses
direct_errors_have_causes setup m moment code e = caused setup m moment code e
