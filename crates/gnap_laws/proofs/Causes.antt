-- What is known where a call is answered by an action.
use Rattle.std.proofs.Common.{◌∙◌, ℕ, ◌+◌, ◌≡◌, ◌⊎◌, inl, inr, Bool, true, false, List, [], length, refl, ap, Option, Some, None}
use Rattle.std.specs.Prelude.{is_some, if◌then◌else◌, ◌&&◌, ◌||◌, not, nat_le}
use Rattle.std.specs.List.{list_any}
use Rattle.gnap_model.specs.Common.{Text, same_text, first_of}
use Rattle.gnap_laws.specs.Types.{Right, Setup, Modes, GrantRequest, Verdict, Binding, Call, ErrorCode, OpeningNote, TokenNote, RoundNote, TermsNote, DecisionNote, Note}
use Rattle.gnap_model.specs.Limits.{live_limit, wrong_limit}
use Rattle.gnap_model.specs.Keys.{key_of, server_names}
use Rattle.gnap_model.specs.Asked.{asked_rights}
use Rattle.gnap_model.specs.declared.objects.Verdict.TheVariants.{Grant, Deny, Unknown}
use Rattle.gnap_model.specs.declared.objects.ErrorCode.TheVariants.{InvalidRotation, InvalidRequest, InvalidClient, InvalidContinuation, UnknownInteraction, TooManyAttempts}
use Rattle.gnap_model.specs.declared.calls.Call.TheVariants.{Begin, Introspect, Lapse, Look, FindCode, Decide, Continue, Modify, Cancel, Rotate, Revoke}
use Rattle.gnap_model.specs.Notes.{Event, trail_of, now_at}
use Rattle.gnap_model.specs.Standing.{GrantState, grant_state, next_grant, named_grant, live_token, live_tokens, managed_token, is_live, is_retirement, opening_in, decision_of, terms_of, wrongs_of, consent_of, round_by_handle, round_by_code}
use Rattle.gnap_model.specs.Standing.GrantState.{IsPending, IsApproved, IsFinalized}
use Rattle.gnap_model.specs.Judging.{Settled, settle, suits, serves_all}
use Rattle.gnap_model.specs.Judging.Settled.{AtOnce, ByAsking, Never}
use Rattle.gnap_model.specs.Actions.{Action, Supply, outcome_of, on_found, with_key, with_owner}
use Rattle.gnap_model.specs.Actions.Action.{Refuse, ShowToken, ShowInactive, OpenAtOnce, OpenAsking, ShowHandle, TakeDecision, RenewDoor, CollectDecision, WrongReference, LastWrongReference, RefuseAndFinalize, ModifyAtOnce, ModifyAsking, CancelGrant, RotateToken, RevokeToken}
use Rattle.gnap_model.specs.Begin.{pass_limit, is_past, begin_by, ask_user, opening, show_token}
use Rattle.gnap_model.specs.Continue.{with_grant, decided_asks, collect_by, collect_or_renew, is_wrong, is_early, continue_round, continue_at}
use Rattle.gnap_model.specs.Change.{tokens_of, other_live_tokens, modify_by}
use Rattle.gnap_model.specs.Manage.{can_bind, rotate_key}
use Rattle.gnap_model.specs.Front.{rights_or, may_decide}
use Rattle.gnap_model.specs.Answer.{action_of, supply_at}
use Rattle.gnap_model.specs.Legal.{IsNext}
use Rattle.gnap_laws.specs.Provenance.{presented_door, presented_manage, origin_in, is_too_many, is_modify, is_cancel}

pub if_both : {A : Type 0} (P : A → Type 0) (b : Bool) (x y : A) → P x → P y → P (if b then x else y)
if_both P true x y hx hy = hx
if_both P false x y hx hy = hy

-- the call presents a value that names the grant
abbrev pub Names : List Note → ℕ → Call → OpeningNote → Type 0
Names trail now call o = (v : Text) × (presented_door call ≡ Some v) × (named_grant trail now v ≡ Some o)

-- the call presents a management value that names the token
abbrev pub Manages : List Note → ℕ → Call → TokenNote → Type 0
Manages trail now call t = (v : Text) × (presented_manage call ≡ Some v) × (managed_token trail now v ≡ Some t)

-- the origin of what the call is answered with is that of the token that it presents
abbrev pub Rotates : Call → Type 0
Rotates call = (place : ℕ) (from : Text → ℕ) (v : Text) → presented_manage call ≡ Some v → origin_in call place from ≡ from v

-- the call asks for a new grant, or to change one, by this request
abbrev pub IsBegin : Call → GrantRequest → Type 0
IsBegin call request = (key : Text) × (not_after : Option ℕ) × (call ≡ Begin key request not_after)

abbrev pub IsModify : Call → GrantRequest → Type 0
IsModify call request = (key : Text) × (value : Text) × (call ≡ Modify key value request)

abbrev pub IsInRound : List Note → ℕ → OpeningNote → Type 0
IsInRound trail now o = (r : RoundNote) × (grant_state trail o.grant now ≡ IsPending r)

-- why a call is answered by an action: an action on a grant answers a call that names the grant, and so on; a call that presents a continuation value
-- is answered by no action but these and refusals
abbrev pub Cause : List Note → ℕ → Call → Action → Type 0
Cause trail now call (Refuse code) = is_too_many code ≡ false
Cause trail now call (OpenAtOnce o request) = (presented_door call ≡ None) × IsBegin call request × (o.grant ≡ next_grant trail)
Cause trail now call (OpenAsking o request modes) = (presented_door call ≡ None) × IsBegin call request × (o.grant ≡ next_grant trail)
Cause trail now call (RenewDoor o) = Names trail now call o
Cause trail now call (CollectDecision o w d asks) = Names trail now call o × IsInRound trail now o × (terms_of trail o.grant ≡ Some w)
    × (asks ≡ decided_asks d.rights w) × (is_modify call ≡ false)
Cause trail now call (WrongReference o) = Names trail now call o
Cause trail now call (LastWrongReference o) = Names trail now call o × IsInRound trail now o
Cause trail now call (RefuseAndFinalize o code) = Names trail now call o × ((is_too_many code ≡ true) ⊎ (IsInRound trail now o × (is_too_many code ≡ false)))
Cause trail now call (ModifyAtOnce o consent retired request) = Names trail now call o × IsModify call request × (retired ≡ tokens_of trail now o)
Cause trail now call (ModifyAsking o retired request modes) = Names trail now call o × IsModify call request × (retired ≡ tokens_of trail now o)
Cause trail now call (CancelGrant o) = Names trail now call o × (is_cancel call ≡ true)
Cause trail now call (RotateToken o t key) = (presented_door call ≡ None) × Manages trail now call t × (is_live trail now t ≡ true)
    × (first_of (opening_in t.grant) trail ≡ Some o) × Rotates call
Cause trail now call (RevokeToken t was_retired) = (presented_door call ≡ None) × Manages trail now call t
    × (was_retired ≡ list_any (is_retirement t.serial) trail)
Cause trail now call _ = presented_door call ≡ None

pub if_known : {A : Type 0} (P : A → Type 0) (b : Bool) (x y : A) → (b ≡ true → P x) → (b ≡ false → P y) → P (if b then x else y)
if_known P true x y hx hy = hx refl
if_known P false x y hx hy = hy refl

asking_cause : (trail : List Note) (now : ℕ) (call : Call) (ask : Modes → Action) (modes : Option Modes) → ((m : Modes) → Cause trail now call (ask m))
    → Cause trail now call (ask_user ask modes)
asking_cause trail now call ask None h = refl
asking_cause trail now call ask (Some m) h = h m

begin_cause : (s : Settled) (trail : List Note) (now : ℕ) (call : Call) (o : OpeningNote) (request : GrantRequest)
    → (presented_door call ≡ None) × IsBegin call request × (o.grant ≡ next_grant trail) → Cause trail now call (begin_by s trail now o request)
begin_cause Never trail now call o request h = refl
begin_cause AtOnce trail now call o request h = if_both (Cause trail now call) (pass_limit (live_tokens trail now) (length request.asks)) (Refuse _)
    (OpenAtOnce o request) refl h
begin_cause ByAsking trail now call o request h = asking_cause trail now call (OpenAsking o request) request.modes (λ m. h)

tell_cause : (trail : List Note) (now : ℕ) (call : Call) (names : List Text) (binding : Option Binding) (wanted : Option (List Right)) (t : Option TokenNote)
    → presented_door call ≡ None → Cause trail now call (show_token names binding wanted t)
tell_cause trail now call names binding wanted None h = h
tell_cause trail now call names binding wanted (Some t) h = if_both (Cause trail now call) (suits names binding wanted t.rights t.bearer) (ShowToken _ t)
    ShowInactive h h

found_cause : {A : Type 0} (trail : List Note) (now : ℕ) (call : Call) (code : ErrorCode) (act : A → Action) (found : Option A) → is_too_many code ≡ false
    → ((x : A) → found ≡ Some x → Cause trail now call (act x)) → Cause trail now call (on_found code act found)
found_cause trail now call code act None c h = c
found_cause trail now call code act (Some x) c h = h x refl

owner_cause : (trail : List Note) (now : ℕ) (call : Call) (act : OpeningNote → Action) (owner key : Text) (o : OpeningNote) → Cause trail now call (act o)
    → Cause trail now call (with_owner act owner key o)
owner_cause trail now call act owner key o h = if_both (Cause trail now call) (same_text owner key) (act o) (Refuse InvalidClient) h refl

collect_by_cause : (trail : List Note) (now : ℕ) (call : Call) (v : Verdict) (o : OpeningNote) (d : DecisionNote) (w : TermsNote) → Names trail now call o
    → IsInRound trail now o → terms_of trail o.grant ≡ Some w → is_modify call ≡ false → Cause trail now call (collect_by v trail now o d w)
collect_by_cause trail now call Deny o d w h r e m = (h, inr (r, refl))
collect_by_cause trail now call Unknown o d w h r e m = (h, inr (r, refl))
collect_by_cause trail now call Grant o d w h r e m = if_both (Cause trail now call) (pass_limit (live_tokens trail now) (length (decided_asks d.rights w)))
    (Refuse _) (CollectDecision o w d (decided_asks d.rights w)) refl (h, r, e, refl, m)

collect_or_renew_cause : (trail : List Note) (now : ℕ) (call : Call) (o : OpeningNote) (d : Option DecisionNote) → Names trail now call o
    → IsInRound trail now o → is_modify call ≡ false → Cause trail now call (collect_or_renew trail now o d)
collect_or_renew_cause trail now call o None h r m = h
collect_or_renew_cause trail now call o (Some d) h r m =
    found_cause trail now call InvalidRequest (collect_by d.verdict trail now o d) (terms_of trail o.grant) refl
    (λ w e. collect_by_cause trail now call d.verdict o d w h r e m)

round_cause : (reference : Option Text) (d : Option DecisionNote) (trail : List Note) (now : ℕ) (call : Call) (o : OpeningNote) (r : RoundNote)
    → Names trail now call o → IsInRound trail now o → is_modify call ≡ false → Cause trail now call (continue_round trail now o reference d r)
round_cause reference d trail now call o r h e m =
    if_both (Cause trail now call) (not (is_some d) && nat_le r.until now) (RefuseAndFinalize o _) _ (h, inr (e, refl))
    (if_both (Cause trail now call) (not (is_some reference) && is_some r.modes.finish) (Refuse _) _ refl
    (if_both (Cause trail now call) (is_wrong reference d) _ _
    (if_both (Cause trail now call) (nat_le wrong_limit (wrongs_of trail o.grant + 1)) (LastWrongReference o) (WrongReference o) (h, e) h)
    (collect_or_renew_cause trail now call o d h e m)))

continue_cause : (s : GrantState) (reference : Option Text) (trail : List Note) (now : ℕ) (call : Call) (o : OpeningNote) → Names trail now call o
    → grant_state trail o.grant now ≡ s → is_modify call ≡ false → Cause trail now call (continue_at s trail now o reference)
continue_cause (IsPending r) reference trail now call o h e m =
    if_both (Cause trail now call) (not (is_some reference) && is_early trail now o) (Refuse _) _ refl
    (round_cause reference (decision_of trail o.grant) trail now call o r h (r, e) m)
continue_cause IsApproved reference trail now call o h e m =
    if_both (Cause trail now call) (is_some reference) (RefuseAndFinalize o TooManyAttempts) _ (h, inl refl)
    (if_both (Cause trail now call) (is_early trail now o) (Refuse _) (RenewDoor o) refl h)
continue_cause IsFinalized reference trail now call o h e m = refl

modify_cause : (s : Settled) (trail : List Note) (now : ℕ) (call : Call) (o : OpeningNote) (request : GrantRequest) → Names trail now call o
    → IsModify call request → Cause trail now call (modify_by s trail now o request)
modify_cause Never trail now call o request h is = refl
modify_cause AtOnce trail now call o request h is = if_both (Cause trail now call) (pass_limit (other_live_tokens trail now o) (length request.asks)) (Refuse _)
    (ModifyAtOnce o _ (tokens_of trail now o) request) refl (h, is, refl)
modify_cause ByAsking trail now call o request h is = asking_cause trail now call (ModifyAsking o (tokens_of trail now o) request) request.modes
    (λ m. (h, is, refl))

with_cause : (trail : List Note) (now : ℕ) (call : Call) (act : OpeningNote → Action) (key : Text) (v : Text) (named : Option OpeningNote)
    → presented_door call ≡ Some v → named_grant trail now v ≡ named
    → ((o : OpeningNote) → Names trail now call o → Cause trail now call (act o)) → Cause trail now call (with_grant act key named)
with_cause trail now call act key v named p e h =
    found_cause trail now call InvalidContinuation (with_key act key) named refl (λ o is. owner_cause trail now call act o.key key o (h o (v, p, e ∙ is)))

rotate_key_cause : (rules : Setup) (trail : List Note) (now : ℕ) (call : Call) (new_key : Option Text) (t : TokenNote) (o : OpeningNote)
    → ((key : Text) → Cause trail now call (RotateToken o t key)) → Cause trail now call (rotate_key rules new_key t o)
rotate_key_cause rules trail now call (Some k) t o h = if_both (Cause trail now call) (can_bind rules t.bearer k) (RotateToken o t k) (Refuse InvalidRotation)
    (h k) refl
rotate_key_cause rules trail now call None t o h = h t.key

pub cause_of : (rules : Setup) (supply : Supply) (trail : List Note) (call : Call) → Cause trail supply.now call (action_of rules supply trail call)
cause_of rules supply trail (Begin key request not_after) =
    if_both (Cause trail supply.now (Begin key request not_after)) (is_past supply.now not_after || nat_le live_limit _) (Refuse _) _ refl
    (begin_cause (settle rules key [] request) trail supply.now (Begin key request not_after) (opening trail supply.now key request not_after) request
    (refl, (key, not_after, refl), refl))
cause_of rules supply trail (Introspect server value binding wanted) =
    if_both (Cause trail supply.now (Introspect server value binding wanted)) (serves_all (server_names (key_of rules server)) wanted) _ (Refuse _)
    (tell_cause trail supply.now (Introspect server value binding wanted) (server_names (key_of rules server)) binding wanted
    (live_token trail supply.now value) refl) refl
cause_of rules supply trail Lapse = refl
cause_of rules supply trail (Look front handle) = found_cause trail supply.now (Look front handle) UnknownInteraction _
    (round_by_handle trail supply.now handle) refl
    (λ r a. found_cause trail supply.now (Look front handle) UnknownInteraction _ (terms_of trail r.grant) refl
    (λ w b. found_cause trail supply.now (Look front handle) UnknownInteraction _ (first_of (opening_in r.grant) trail) refl (λ o c. refl)))
cause_of rules supply trail (FindCode front code) = found_cause trail supply.now (FindCode front code) UnknownInteraction ShowHandle
    (round_by_code trail supply.now code) refl (λ r e. refl)
cause_of rules supply trail (Decide front request) = found_cause trail supply.now (Decide front request) UnknownInteraction _
    (round_by_handle trail supply.now request.handle) refl
    (λ r a. found_cause trail supply.now (Decide front request) UnknownInteraction _ (terms_of trail r.grant) refl
    (λ w b. if_both (Cause trail supply.now (Decide front request))
    (may_decide request.verdict (asked_rights w.asks) (rights_or (asked_rights w.asks) request.rights)) (TakeDecision r _ request) (Refuse _) refl refl))
cause_of rules supply trail (Continue key value reference) =
    with_cause trail supply.now (Continue key value reference) (λ o. continue_at (grant_state trail o.grant supply.now) trail supply.now o reference) key value
    (named_grant trail supply.now value) refl refl
    (λ o h. continue_cause (grant_state trail o.grant supply.now) reference trail supply.now (Continue key value reference) o h refl refl)
cause_of rules supply trail (Modify key value request) =
    with_cause trail supply.now (Modify key value request) (λ o. modify_by (settle rules o.key (consent_of trail o.grant) request) trail supply.now o request)
    key value (named_grant trail supply.now value) refl refl
    (λ o h. modify_cause (settle rules o.key (consent_of trail o.grant) request) trail supply.now (Modify key value request) o request h (key, value, refl))
cause_of rules supply trail (Cancel key value) =
    with_cause trail supply.now (Cancel key value) CancelGrant key value (named_grant trail supply.now value) refl refl (λ o h. (h, refl))
cause_of rules supply trail (Rotate key value new_key) = found_cause trail supply.now (Rotate key value new_key) InvalidRotation _
    (managed_token trail supply.now value) refl
    (λ t e. if_known (Cause trail supply.now (Rotate key value new_key)) (is_live trail supply.now t) _ (Refuse InvalidRotation)
    (λ live. found_cause trail supply.now (Rotate key value new_key) InvalidRotation _ (first_of (opening_in t.grant) trail) refl
    (λ o is. owner_cause trail supply.now (Rotate key value new_key) (rotate_key rules new_key t) t.key key o
    (rotate_key_cause rules trail supply.now (Rotate key value new_key) new_key t o
    (λ bound. (refl, (value, refl, e), live, is, (λ place from v same. let s : value ≡ v = cc same in ap from s)))))) (λ dead. refl))
cause_of rules supply trail (Revoke key value) = found_cause trail supply.now (Revoke key value) InvalidRequest _ (managed_token trail supply.now value) refl
    (λ t e. found_cause trail supply.now (Revoke key value) InvalidRequest _ (first_of (opening_in t.grant) trail) refl
    (λ o is. owner_cause trail supply.now (Revoke key value) (λ o. RevokeToken t (list_any (is_retirement t.serial) trail)) t.key key o
    (refl, (value, refl, e), refl)))

-- An entry of a legal history is answered by an action, for one of these causes. Laws on histories use this alone.
pub record Chosen (past : List Event) (e : Event) : Type 0 where
  pub action : Action
  pub cause : Cause (trail_of past) (now_at past e.moment) e.call action
  pub reply : e.reply ≡ (outcome_of (supply_at past e.moment e.draw) action).reply
  pub notes : e.notes ≡ (outcome_of (supply_at past e.moment e.draw) action).notes

pub chosen : (rules : Setup) (past : List Event) (e : Event) → IsNext rules past e → Chosen past e
chosen rules past e next = record {
  action = action_of rules (supply_at past e.moment e.draw) (trail_of past) e.call;
  cause = cause_of rules (supply_at past e.moment e.draw) (trail_of past) e.call;
  reply = next.reply;
  notes = next.notes;
}
