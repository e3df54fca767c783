-- A request that asks for the rotation of a token to a key is signed by the key that makes the call, and by the key that it names.
use Rattle.std.proofs.Common.{◌≡◌, ℕ, Bool, true, false, Option, Some, None, Result, Ok, Err, refl, sym, ap, subst, ◌∙◌}
use Rattle.std.specs.Prelude.{if◌then◌else◌, codes}
use Rattle.std.specs.Result.{result_ok}
use Rattle.std.proofs.lemmas.Slice.Eq.{bytes_eq-Decides}
use Rattle.bytes_and_lists.specs.declared.message.Message.{Message}
use Rattle.serde_json.specs.Data.{Data}
use Rattle.structured_fields.specs.Named.{value_at}
use Rattle.structured_fields.specs.Reading.{◌>>=◌}
use Rattle.message_signature.specs.declared.fault.SigFault.{SigFault}
use Rattle.message_signature.specs.declared.marks.SignatureMark.{SignatureMark}
use Rattle.message_signature.specs.Marks.{mark_of}
use Rattle.message_signature.specs.Marked.{with_mark}
use Rattle.message_signature.specs.Verified.{verified}
use Rattle.rotation_checks.specs.declared.fault.RotationFault.{RotationFault}
use Rattle.rotation_checks.specs.declared.verifying.RotatedKeys.{RotatedKeys}
use Rattle.rotation_checks.specs.Rotated.{rotated_keys}
use Rattle.signature_laws.specs.Rotation.{AreKeysOf, RotatedIsByBoth}
use Rattle.gnap_model.specs.Common.{Text, is_text, same_text}
use Rattle.gnap_model.specs.Keys.{key_of}
use Rattle.gnap_model.specs.declared.objects.ErrorCode.TheVariants.{InvalidClient}
use Rattle.gnap_model.specs.declared.objects.Setup.{Setup}
use Rattle.gnap_model.specs.declared.calls.Call.TheVariants as calls
use Rattle.gnap_objects.specs.declared.fault.ObjectFault.{ObjectFault}
use Rattle.gnap_objects.specs.declared.call_reading.CallKind.{CallKind}
use Rattle.gnap_objects.specs.declared.call_reading.CallKind.TheVariants.{Begin, Continue, Modify, Cancel, Rotate, Revoke, Introspect, Look, FindCode, Decide}
use Rattle.gnap_objects.specs.declared.call_reading.CallOrRefusal.{CallOrRefusal}
use Rattle.gnap_objects.specs.declared.call_reading.CallOrRefusal.TheVariants.{Accepted, Refused}
use Rattle.gnap_objects.specs.Grants.{grant_body_of}
use Rattle.gnap_objects.specs.Continuations.{continuation_of, rotation_of}
use Rattle.gnap_objects.specs.Introspections.{introspection_of}
use Rattle.gnap_objects.specs.UserCodes.{user_code_of}
use Rattle.gnap_objects.specs.Decisions.{handle_of, decide_request_of}
use Rattle.gnap_objects.specs.CallReading.{Body, NoBody, ObjectBody, NoObject, is_caller, stranger, with_object, with_or_without}
use Rattle.gnap_objects.specs.CallReading.{begin_by, modify_by, continue_by, rotate_by, introspect_by, look_by, find_code_by, decide_by, caller_call, call_of}
use Rattle.signed_calls.specs.declared.signed.Mark.{Mark}
use Rattle.signed_calls.specs.declared.signed.Signed.{Signed}
use Rattle.as_requests.specs.declared.routes.Route.{Route}
use Rattle.as_requests.specs.declared.routes.Purpose.{Purpose}
use Rattle.as_requests.specs.declared.routes.Purpose.TheVariants as purpose
use Rattle.as_requests.specs.declared.desk_calls.DirectAnswer.TheVariants as direct
use Rattle.as_requests.specs.declared.desk_calls.RequestStep.{RequestStep}
use Rattle.as_requests.specs.declared.desk_calls.RequestStep.TheVariants.{Direct, Ask}
use Rattle.as_requests.specs.declared.signers.Signer.{Signer}
use Rattle.as_requests.specs.Rings.{secrets_of}
use Rattle.message_signature.specs.Components.{target_path}
use Rattle.as_requests.specs.Routes.{route_at, methods_of}
use Rattle.as_requests.specs.Presented.{presented_value}
use Rattle.as_requests.specs.Signers.{needs_mark, signer_with, signer}
use Rattle.as_requests.specs.KeyRotations.{named_key, is_new_key, is_signed_by_named}
use Rattle.as_requests.specs.DeskCalls.{message_body, step_of, signed_step, rotation_step, method_step, route_step, desk_call}
use Rattle.request_laws.specs.Laws.{IsSignedByBoth}

-- ---- the key of a rotation that was read is the reader's

-- the key of a rotation, or another text
abbrev rotating_key : Text → CallOrRefusal → Text
rotating_key other (Accepted (calls.Rotate key value new_key)) = key
rotating_key other _ = other

if_kept : (key : Text) (b : Bool) (x y : CallOrRefusal) → rotating_key key x ≡ key → rotating_key key y ≡ key
    → rotating_key key (if b then x else y) ≡ key
if_kept key true x y if_true if_false = if_true
if_kept key false x y if_true if_false = if_false

object_kept : (key : Text) (call : Data → CallOrRefusal) (body : Body) → ((d : Data) → rotating_key key (call d) ≡ key)
    → rotating_key key (with_object call body) ≡ key
object_kept key call NoBody kept = refl
object_kept key call (ObjectBody d) kept = kept d
object_kept key call NoObject kept = refl

optional_kept : (key : Text) (call : Option Data → CallOrRefusal) (body : Body) → ((o : Option Data) → rotating_key key (call o) ≡ key)
    → rotating_key key (with_or_without call body) ≡ key
optional_kept key call NoBody kept = kept None
optional_kept key call (ObjectBody d) kept = kept (Some d)
optional_kept key call NoObject kept = refl

-- a call that one answer of a reader makes, and its other answer
read_kept : {A : Type 0} (key : Text) (call : Result A ObjectFault → CallOrRefusal)
    → ((fault : ObjectFault) → rotating_key key (call (Err fault)) ≡ key) → ((x : A) → rotating_key key (call (Ok x)) ≡ key)
    → (r : Result A ObjectFault) → rotating_key key (call r) ≡ key
read_kept key call refused read (Ok x) = read x
read_kept key call refused read (Err fault) = refused fault

caller_kept : (kind : CallKind) (key value : Text) (body : Body) → rotating_key key (caller_call kind key value body) ≡ key
caller_kept Begin key value body = object_kept key _ body (λ d. read_kept key (begin_by key) (λ fault. refl)
    (λ read. if_kept key (is_text key read.request.client) _ _ (if_kept key read.repeats_flag _ _ refl refl) refl) (grant_body_of false d))
caller_kept Continue key value body = optional_kept key (λ o. continue_by key value (continuation_of o)) body
    (λ o. read_kept key (continue_by key value) (λ fault. refl) (λ read. refl) (continuation_of o))
caller_kept Modify key value body = object_kept key _ body (λ d. read_kept key (modify_by key value) (λ fault. refl)
    (λ read. if_kept key read.repeats_flag _ _ refl refl) (grant_body_of true d))
caller_kept Cancel key value body = refl
caller_kept Rotate key value body = optional_kept key (λ o. rotate_by key value (rotation_of o)) body
    (λ o. read_kept key (rotate_by key value) (λ fault. refl) (λ read. refl) (rotation_of o))
caller_kept Revoke key value body = refl
caller_kept Introspect key value body = object_kept key _ body (λ d. read_kept key (introspect_by key) (λ fault. refl)
    (λ read. if_kept key (same_text read.server key) _ _ refl refl) (introspection_of d))
caller_kept Look key value body = object_kept key _ body (λ d. read_kept key (look_by key) (λ fault. refl) (λ read. refl) (handle_of d))
caller_kept FindCode key value body = object_kept key _ body (λ d. read_kept key (find_code_by key) (λ fault. refl) (λ read. refl) (user_code_of d))
caller_kept Decide key value body = object_kept key _ body (λ d. read_kept key (decide_by key) (λ fault. refl) (λ read. refl) (decide_request_of d))

stranger_kept : (kind : CallKind) (key : Text) → rotating_key key (stranger kind) ≡ key
stranger_kept Introspect key = refl
stranger_kept _ key = refl

call_kept : (setup : Setup) (kind : CallKind) (key value : Text) (body : Body) → rotating_key key (call_of setup kind key value body) ≡ key
unfolding call_of
call_kept setup kind key value body = if_kept key (is_caller kind (key_of setup key)) _ _ (caller_kept kind key value body) (stranger_kept kind key)

stranger_asks_nothing : (kind : CallKind) (signed : Signed) → step_of None (stranger kind) ≡ Ask signed → ⊥
stranger_asks_nothing Introspect signed e = cc
stranger_asks_nothing _ signed e = cc

-- ---- who signed

-- the signer with a key has that key
with_key : (id : Text) (needed : Bool) (mark : Option SignatureMark) (s : Signer) → signer_with id needed mark ≡ Some s → id ≡ s.key
with_key id true None s e = absurd cc
with_key id true (Some mark) s e = ap (λ (x : Signer). x.key) (some_same e)
  where
    some_same : {x y : Signer} → Some x ≡ Some y → x ≡ y
    some_same e = cc
with_key id false mark s e = ap (λ (x : Signer). x.key) (some_same e)
  where
    some_same : {x y : Signer} → Some x ≡ Some y → x ≡ y
    some_same e = cc

signs : (mark : Option SignatureMark) (needed : Bool) (s : Signer) (r : Result Text SigFault)
    → (result_ok (with_mark mark r) >>= λ signed. signer_with signed.0 needed signed.1) ≡ Some s → r ≡ Ok s.key
signs mark needed s (Ok id) e = ap Ok (with_key id needed mark s e)
signs mark needed s (Err fault) e = absurd cc

-- the key of the signature with the tag `gnap`
abbrev first_signer : Setup → Message → ℕ → Result Text SigFault
first_signer setup m moment = verified m setup.base (secrets_of setup) moment (codes "gnap")

-- ---- what is asked

module _ (setup : Setup) (m : Message) (moment : ℕ) (signed : Signed) where
  -- the key that is named signed too
  abbrev IsNamed : Type 0
  IsNamed = is_signed_by_named setup m moment (named_key signed.call) ≡ true

  named : (step : RequestStep) → rotation_step setup m moment step ≡ Ask signed → (step ≡ Ask signed) × IsNamed
  named (Direct answer) e = absurd cc
  named (Ask other) e = by (is_signed_by_named setup m moment (named_key other.call)) refl e
    where
      by : (b : Bool) → is_signed_by_named setup m moment (named_key other.call) ≡ b
          → (if b then Ask other else Direct (direct.Error InvalidClient)) ≡ Ask signed → (Ask other ≡ Ask signed) × IsNamed
      by true is e =
          let same : other ≡ signed = cc in
          (e, subst (λ (x : Signed). is_signed_by_named setup m moment (named_key x.call) ≡ true) same is)
      by false is e = absurd cc

  -- the call was read
  read : (mark : Option Mark) (answer : CallOrRefusal) → step_of mark answer ≡ Ask signed → answer ≡ Accepted signed.call
  read mark (Accepted call) e =
      let made : Signed = record { mark = mark; call = call } in
      let same : made ≡ signed = cc in
      ap (λ (x : Signed). Accepted x.call) same
  read mark (Refused code) e = absurd cc

  -- the message was signed by the key that makes the call
  record IsMadeBy (key : Text) : Type 0 where
    is_signed : first_signer setup m moment ≡ Ok key
    is_named : IsNamed

  made_by : (key value : Text) (new_key : Option Text) → signed.call ≡ calls.Rotate key value new_key → (kind : CallKind) (o : Option Signer)
      → signer setup (needs_mark kind) m moment ≡ o → signed_step setup kind m o ≡ Ask signed → IsNamed → IsMadeBy key
  made_by key value new_key call kind None who e is_named = absurd (stranger_asks_nothing kind signed e)
  made_by key value new_key call kind (Some s) who e is_named =
      let answer : CallOrRefusal = call_of setup kind s.key (presented_value m) (message_body m.body) in
      let is : answer ≡ Accepted (calls.Rotate key value new_key) = read s.mark answer e ∙ ap Accepted call in
      let same : s.key ≡ key = sym (call_kept setup kind s.key (presented_value m) (message_body m.body)) ∙ ap (rotating_key s.key) is in
      record {
        is_signed = signs (mark_of m (codes "gnap")) (needs_mark kind) s (first_signer setup m moment) who ∙ ap Ok same;
        is_named = is_named;
      }

  made : (key value : Text) (new_key : Option Text) → signed.call ≡ calls.Rotate key value new_key → desk_call setup m moment ≡ Ask signed
      → IsMadeBy key
  unfolding desk_call
  made key value new_key call e = by_route (route_at (target_path m.target)) e
    where
      by_purpose : (route : Route) (p : Option Purpose) → method_step setup m moment route p ≡ Ask signed → IsMadeBy key
      by_purpose route None e = absurd cc
      by_purpose route (Some purpose.Discovery) e = absurd cc
      by_purpose route (Some purpose.RsDiscovery) e = absurd cc
      by_purpose route (Some (purpose.Calls kind)) e =
          let asked = named (signed_step setup kind m (signer setup (needs_mark kind) m moment)) e in
          made_by key value new_key call kind (signer setup (needs_mark kind) m moment) refl asked.0 asked.1

      by_route : (route : Option Route) → route_step setup m moment route ≡ Ask signed → IsMadeBy key
      by_route None e = absurd cc
      by_route (Some route) e = by_purpose route (value_at (methods_of route) m.method) e

-- ---- both keys

-- both keys were answered, and the new one is the one that is named
record IsAnswered (new_key : Text) (r : Result RotatedKeys RotationFault) : Type 0 where
  keys : RotatedKeys
  is : r ≡ Ok keys
  new : keys.new ≡ new_key

answered : (new_key : Text) (r : Result RotatedKeys RotationFault) → is_new_key new_key r ≡ true → IsAnswered new_key r
answered new_key (Ok keys) e = record { keys = keys; is = refl; new = (bytes_eq-Decides keys.new new_key).0 e }
answered new_key (Err fault) e = absurd cc

abbrev keys_of : Text → Text → RotatedKeys
keys_of old new = record { old = old; new = new }

one_key : (r : Result Text SigFault) (x y : Text) → r ≡ Ok x → r ≡ Ok y → x ≡ y
one_key r x y a b = let both : Ok x ≡ Ok y = sym a ∙ b in cc

both_same : {old old' new new' : Text} → old ≡ old' → new ≡ new' → keys_of old new ≡ keys_of old' new'
both_same a b = cc

pub signed_by_both : RotatedIsByBoth → IsSignedByBoth
signed_by_both says setup m moment mark key value new_key e =
    let signed : Signed = record { mark = mark; call = calls.Rotate key value (Some new_key) } in
    let made_is = made setup m moment signed key value (Some new_key) refl e in
    let both = answered new_key (rotated_keys m setup.base (secrets_of setup) moment) made_is.is_named in
    let are = says m setup.base (secrets_of setup) moment both.keys both.is in
    let old : both.keys.old ≡ key = one_key (first_signer setup m moment) both.keys.old key are.old made_is.is_signed in
    subst (AreKeysOf m setup.base (secrets_of setup) moment) (both_same old both.new) are
