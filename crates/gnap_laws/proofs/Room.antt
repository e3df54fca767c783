-- What the tests of limits leave room for, where a call is answered by an action.
use Rattle.std.proofs.Common.{ℕ, ◌≡◌, ◌≤◌, ◌<◌, ◌+◌, false, List, [], length, Option, Some, None}
use Rattle.std.specs.Prelude.{is_some, ◌&&◌, ◌||◌, not, nat_le}
use Rattle.std.specs.List.{list_any}
use Rattle.std.proofs.lemmas.Bool.{leb-false, ltb-false, or_parts}
use Rattle.gnap_model.specs.Common.{Text, same_text, first_of}
use Rattle.gnap_laws.specs.Types.{Right, Setup, Modes, GrantRequest, Verdict, Binding, Call, ErrorCode, OpeningNote, TokenNote, RoundNote, TermsNote, DecisionNote, Note}
use Rattle.gnap_model.specs.Limits.{live_limit, wrong_limit}
use Rattle.gnap_model.specs.Keys.{key_of, server_names}
use Rattle.gnap_model.specs.Asked.{asked_rights}
use Rattle.gnap_model.specs.declared.objects.Verdict.TheVariants.{Grant, Deny, Unknown}
use Rattle.gnap_model.specs.declared.objects.ErrorCode.TheVariants.{InvalidClient, InvalidRotation, RequestDenied, TooManyAttempts}
use Rattle.gnap_model.specs.declared.calls.Call.TheVariants.{Begin, Introspect, Lapse, Look, FindCode, Decide, Continue, Modify, Cancel, Rotate, Revoke}
use Rattle.gnap_model.specs.Notes.{Event, trail_of, now_at}
use Rattle.gnap_model.specs.Standing.{GrantState, grant_state, named_grant, live_grants, live_token, live_tokens, managed_token, is_live, is_retirement, opening_in, decision_of, terms_of, wrongs_of, consent_of, round_by_handle, round_by_code}
use Rattle.gnap_model.specs.Standing.GrantState.{IsPending, IsApproved, IsFinalized}
use Rattle.gnap_model.specs.Judging.{Settled, settle, suits, serves_all}
use Rattle.gnap_model.specs.Judging.Settled.{AtOnce, ByAsking, Never}
use Rattle.gnap_model.specs.Actions.{Action, Supply, on_found, with_owner}
use Rattle.gnap_model.specs.Actions.Action.{Refuse, ShowToken, ShowInactive, OpenAtOnce, OpenAsking, ShowHandle, TakeDecision, RenewDoor, CollectDecision, WrongReference, LastWrongReference, RefuseAndFinalize, ModifyAtOnce, ModifyAsking, CancelGrant, RotateToken, RevokeToken}
use Rattle.gnap_model.specs.Begin.{pass_limit, is_past, begin_by, ask_user, opening, show_token}
use Rattle.gnap_model.specs.Continue.{decided_asks, collect_by, collect_or_renew, is_wrong, is_early, continue_round, continue_at}
use Rattle.gnap_model.specs.Change.{tokens_of, other_live_tokens, modify_by}
use Rattle.gnap_model.specs.Manage.{can_bind, rotate_key}
use Rattle.gnap_model.specs.Front.{rights_or, may_decide}
use Rattle.gnap_model.specs.Answer.{action_of, supply_at}
use Rattle.gnap_model.specs.Legal.{IsNext}
use Rattle.gnap_laws.proofs.Causes.{Chosen, cause_of, if_both, if_known}

-- fewer grants are live, live tokens and new ones are not too many, the wrong reference is not the one too many
abbrev pub HasRoom : List Note → ℕ → Action → Type 0
HasRoom trail now (OpenAtOnce o request) = (live_grants trail now < live_limit) × (length (live_tokens trail now) + length request.asks ≤ live_limit)
HasRoom trail now (OpenAsking o request modes) = live_grants trail now < live_limit
HasRoom trail now (CollectDecision o w d asks) = length (live_tokens trail now) + length asks ≤ live_limit
HasRoom trail now (ModifyAtOnce o consent retired request) = length (other_live_tokens trail now o) + length request.asks ≤ live_limit
HasRoom trail now (WrongReference o) = wrongs_of trail o.grant + 1 < wrong_limit
HasRoom trail now _ = Unit {0}

found_room : {A : Type 0} (trail : List Note) (now : ℕ) (code : ErrorCode) (act : A → Action) (found : Option A) → ((x : A) → HasRoom trail now (act x))
    → HasRoom trail now (on_found code act found)
found_room trail now code act None room = tt
found_room trail now code act (Some x) room = room x

owner_room : (trail : List Note) (now : ℕ) (act : OpeningNote → Action) (owner key : Text) (o : OpeningNote) → HasRoom trail now (act o)
    → HasRoom trail now (with_owner act owner key o)
owner_room trail now act owner key o room = if_both (HasRoom trail now) (same_text owner key) (act o) (Refuse InvalidClient) room tt

asking_room : (trail : List Note) (now : ℕ) (ask : Modes → Action) (modes : Option Modes) → ((m : Modes) → HasRoom trail now (ask m))
    → HasRoom trail now (ask_user ask modes)
asking_room trail now ask None room = tt
asking_room trail now ask (Some m) room = room m

-- so many more tokens pass no limit
within : (live : List TokenNote) (more : ℕ) → pass_limit live more ≡ false → length live + more ≤ live_limit
within live more under = ltb-false live_limit (length live + more) under

begin_room : (s : Settled) (trail : List Note) (now : ℕ) (o : OpeningNote) (request : GrantRequest) → live_grants trail now < live_limit
    → HasRoom trail now (begin_by s trail now o request)
begin_room Never trail now o request few = tt
begin_room AtOnce trail now o request few =
    if_known (HasRoom trail now) (pass_limit (live_tokens trail now) (length request.asks)) (Refuse RequestDenied) (OpenAtOnce o request)
    (λ over. tt) (λ under. (few, within (live_tokens trail now) (length request.asks) under))
begin_room ByAsking trail now o request few = asking_room trail now (OpenAsking o request) request.modes (λ m. few)

modify_room : (s : Settled) (trail : List Note) (now : ℕ) (o : OpeningNote) (request : GrantRequest) → HasRoom trail now (modify_by s trail now o request)
modify_room Never trail now o request = tt
modify_room AtOnce trail now o request =
    if_known (HasRoom trail now) (pass_limit (other_live_tokens trail now o) (length request.asks)) (Refuse RequestDenied)
    (ModifyAtOnce o (consent_of trail o.grant) (tokens_of trail now o) request)
    (λ over. tt) (λ under. within (other_live_tokens trail now o) (length request.asks) under)
modify_room ByAsking trail now o request = asking_room trail now (ModifyAsking o (tokens_of trail now o) request) request.modes (λ m. tt)

collect_room : (v : Verdict) (trail : List Note) (now : ℕ) (o : OpeningNote) (d : DecisionNote) (w : TermsNote)
    → HasRoom trail now (collect_by v trail now o d w)
collect_room Deny trail now o d w = tt
collect_room Unknown trail now o d w = tt
collect_room Grant trail now o d w =
    if_known (HasRoom trail now) (pass_limit (live_tokens trail now) (length (decided_asks d.rights w))) (Refuse RequestDenied)
    (CollectDecision o w d (decided_asks d.rights w))
    (λ over. tt) (λ under. within (live_tokens trail now) (length (decided_asks d.rights w)) under)

collect_or_renew_room : (trail : List Note) (now : ℕ) (o : OpeningNote) (d : Option DecisionNote) → HasRoom trail now (collect_or_renew trail now o d)
collect_or_renew_room trail now o None = tt
collect_or_renew_room trail now o (Some d) = found_room trail now _ (collect_by d.verdict trail now o d) (terms_of trail o.grant)
    (λ w. collect_room d.verdict trail now o d w)

round_room : (trail : List Note) (now : ℕ) (o : OpeningNote) (reference : Option Text) (d : Option DecisionNote) (r : RoundNote)
    → HasRoom trail now (continue_round trail now o reference d r)
round_room trail now o reference d r =
    if_both (HasRoom trail now) (not (is_some d) && nat_le r.until now) (RefuseAndFinalize o _) _ tt
    (if_both (HasRoom trail now) (not (is_some reference) && is_some r.modes.finish) (Refuse _) _ tt
    (if_both (HasRoom trail now) (is_wrong reference d) _ _
    (if_known (HasRoom trail now) (nat_le wrong_limit (wrongs_of trail o.grant + 1)) (LastWrongReference o) (WrongReference o)
    (λ last. tt) (λ more. leb-false wrong_limit (wrongs_of trail o.grant + 1) more))
    (collect_or_renew_room trail now o d)))

continue_room : (s : GrantState) (trail : List Note) (now : ℕ) (o : OpeningNote) (reference : Option Text)
    → HasRoom trail now (continue_at s trail now o reference)
continue_room (IsPending r) trail now o reference =
    if_both (HasRoom trail now) (not (is_some reference) && is_early trail now o) (Refuse _) _ tt
    (round_room trail now o reference (decision_of trail o.grant) r)
continue_room IsApproved trail now o reference =
    if_both (HasRoom trail now) (is_some reference) (RefuseAndFinalize o TooManyAttempts) _ tt
    (if_both (HasRoom trail now) (is_early trail now o) (Refuse _) (RenewDoor o) tt tt)
continue_room IsFinalized trail now o reference = tt

show_room : (trail : List Note) (now : ℕ) (names : List Text) (binding : Option Binding) (wanted : Option (List Right)) (t : Option TokenNote)
    → HasRoom trail now (show_token names binding wanted t)
show_room trail now names binding wanted None = tt
show_room trail now names binding wanted (Some t) = if_both (HasRoom trail now) (suits names binding wanted t.rights t.bearer) (ShowToken _ t) ShowInactive tt
    tt

rotate_room : (rules : Setup) (trail : List Note) (now : ℕ) (new_key : Option Text) (t : TokenNote) (o : OpeningNote)
    → HasRoom trail now (rotate_key rules new_key t o)
rotate_room rules trail now (Some k) t o = if_both (HasRoom trail now) (can_bind rules t.bearer k) (RotateToken o t k) (Refuse InvalidRotation) tt tt
rotate_room rules trail now None t o = tt

has_room : (rules : Setup) (supply : Supply) (trail : List Note) (call : Call) → HasRoom trail supply.now (action_of rules supply trail call)
has_room rules supply trail (Begin key request not_after) =
    if_known (HasRoom trail supply.now) (is_past supply.now not_after || nat_le live_limit (live_grants trail supply.now)) (Refuse _) _ (λ none. tt)
    (λ some. begin_room (settle rules key [] request) trail supply.now (opening trail supply.now key request not_after) request
    (leb-false live_limit (live_grants trail supply.now) (or_parts (is_past supply.now not_after) (nat_le live_limit (live_grants trail supply.now)) some).1))
has_room rules supply trail (Introspect server value binding wanted) =
    if_both (HasRoom trail supply.now) (serves_all (server_names (key_of rules server)) wanted) _ (Refuse _)
    (show_room trail supply.now (server_names (key_of rules server)) binding wanted (live_token trail supply.now value)) tt
has_room rules supply trail Lapse = tt
has_room rules supply trail (Look front handle) = found_room trail supply.now _ _ (round_by_handle trail supply.now handle)
    (λ r. found_room trail supply.now _ _ (terms_of trail r.grant) (λ w. found_room trail supply.now _ _ (first_of (opening_in r.grant) trail) (λ o. tt)))
has_room rules supply trail (FindCode front code) = found_room trail supply.now _ ShowHandle (round_by_code trail supply.now code) (λ r. tt)
has_room rules supply trail (Decide front request) = found_room trail supply.now _ _ (round_by_handle trail supply.now request.handle)
    (λ r. found_room trail supply.now _ _ (terms_of trail r.grant)
    (λ w. if_both (HasRoom trail supply.now) (may_decide request.verdict (asked_rights w.asks) (rights_or (asked_rights w.asks) request.rights))
    (TakeDecision r _ request) (Refuse _) tt tt))
has_room rules supply trail (Continue key value reference) = found_room trail supply.now _ _ (named_grant trail supply.now value)
    (λ o. owner_room trail supply.now (λ o. continue_at (grant_state trail o.grant supply.now) trail supply.now o reference) o.key key o
    (continue_room (grant_state trail o.grant supply.now) trail supply.now o reference))
has_room rules supply trail (Modify key value request) = found_room trail supply.now _ _ (named_grant trail supply.now value)
    (λ o. owner_room trail supply.now (λ o. modify_by (settle rules o.key (consent_of trail o.grant) request) trail supply.now o request) o.key key o
    (modify_room (settle rules o.key (consent_of trail o.grant) request) trail supply.now o request))
has_room rules supply trail (Cancel key value) = found_room trail supply.now _ _ (named_grant trail supply.now value)
    (λ o. owner_room trail supply.now CancelGrant o.key key o tt)
has_room rules supply trail (Rotate key value new_key) = found_room trail supply.now _ _ (managed_token trail supply.now value)
    (λ t. if_both (HasRoom trail supply.now) (is_live trail supply.now t) _ (Refuse _)
    (found_room trail supply.now _ _ (first_of (opening_in t.grant) trail)
    (λ o. owner_room trail supply.now (rotate_key rules new_key t) t.key key o (rotate_room rules trail supply.now new_key t o))) tt)
has_room rules supply trail (Revoke key value) = found_room trail supply.now _ _ (managed_token trail supply.now value)
    (λ t. found_room trail supply.now _ _ (first_of (opening_in t.grant) trail)
    (λ o. owner_room trail supply.now (λ o. RevokeToken t (list_any (is_retirement t.serial) trail)) t.key key o tt))

-- An entry of a legal history is answered by an action for its cause, and there is room for the action.
pub record ChosenWithRoom (past : List Event) (e : Event) : Type 0 where
  pub why : Chosen past e
  pub room : HasRoom (trail_of past) (now_at past e.moment) why.action

pub chosen_with_room : (rules : Setup) (past : List Event) (e : Event) → IsNext rules past e → ChosenWithRoom past e
chosen_with_room rules past e next = record {
  why = record {
    action = action_of rules (supply_at past e.moment e.draw) (trail_of past) e.call;
    cause = cause_of rules (supply_at past e.moment e.draw) (trail_of past) e.call;
    reply = next.reply;
    notes = next.notes;
  };
  room = has_room rules (supply_at past e.moment e.draw) (trail_of past) e.call;
}
