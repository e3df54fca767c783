-- More of why a call is answered by an action: a grant that is opened doesn't end at once, and a decision is about a live interaction.
use Rattle.std.proofs.Common.{ℕ, ◌≡◌, ◌+◌, false, List, [], refl, arith, Option, Some, None}
use Rattle.std.specs.Prelude.{◌&&◌, ◌||◌, not, is_some, nat_le}
use Rattle.std.specs.List.{list_any}
use Rattle.std.proofs.lemmas.Bool.{or_parts}
use Rattle.std.proofs.lemmas.Bool.Decides.{nat_tests}
use Rattle.gnap_model.specs.Common.{Text, first_of, same_text}
use Rattle.gnap_model.specs.Limits.{live_limit, wrong_limit}
use Rattle.gnap_model.specs.Asked.{asked_rights}
use Rattle.gnap_model.specs.declared.rights.Right.{Right}
use Rattle.gnap_model.specs.declared.objects.Modes.{Modes}
use Rattle.gnap_model.specs.declared.objects.Binding.{Binding}
use Rattle.gnap_model.specs.declared.objects.GrantRequest.{GrantRequest}
use Rattle.gnap_model.specs.declared.objects.Setup.{Setup}
use Rattle.gnap_model.specs.declared.objects.Verdict.{Verdict}
use Rattle.gnap_model.specs.declared.objects.Verdict.TheVariants.{Grant, Deny, Unknown}
use Rattle.gnap_model.specs.declared.objects.ErrorCode.{ErrorCode}
use Rattle.gnap_model.specs.declared.calls.Call.{Call}
use Rattle.gnap_model.specs.declared.calls.Call.TheVariants.{Begin, Introspect, Lapse, Look, FindCode, Decide, Continue, Modify, Cancel, Rotate, Revoke}
use Rattle.gnap_model.specs.declared.notes.OpeningNote.{OpeningNote}
use Rattle.gnap_model.specs.declared.notes.TermsNote.{TermsNote}
use Rattle.gnap_model.specs.declared.notes.DecisionNote.{DecisionNote}
use Rattle.gnap_model.specs.declared.notes.TokenNote.{TokenNote}
use Rattle.gnap_model.specs.declared.notes.Note.{Note}
use Rattle.gnap_model.specs.Keys.{key_of, server_names}
use Rattle.gnap_model.specs.Judging.{Settled, settle, suits, serves_all}
use Rattle.gnap_model.specs.Judging.Settled.{AtOnce, ByAsking, Never}
use Rattle.gnap_model.specs.Standing.{GrantState, grant_state, round_by_handle, round_by_code, named_grant, managed_token, live_tokens, live_token, live_grants, terms_of, opening_in, decision_of, is_live, is_retirement, consent_of}
use Rattle.gnap_model.specs.Standing.GrantState.{IsPending, IsApproved, IsFinalized}
use Rattle.gnap_model.specs.Begin.{pass_limit, is_past, end_of, ask_user, show_token, opening, begin_by}
use Rattle.gnap_model.specs.Continue.{is_early, is_wrong, decided_asks, continue_at, collect_or_renew, collect_by}
use Rattle.gnap_model.specs.Change.{modify_by, tokens_of, other_live_tokens}
use Rattle.gnap_model.specs.Manage.{can_bind, rotate_key}
use Rattle.gnap_model.specs.Front.{may_decide, rights_or}
use Rattle.gnap_model.specs.Actions.{Action, Supply, on_found, with_owner}
use Rattle.gnap_model.specs.Actions.Action.{Refuse, ShowToken, ShowInactive, OpenAtOnce, OpenAsking, ShowHandle, TakeDecision, RenewDoor, CollectDecision, WrongReference, LastWrongReference, RefuseAndFinalize, ModifyAtOnce, ModifyAsking, CancelGrant, RotateToken, RevokeToken}
use Rattle.gnap_model.specs.Answer.{action_of}
use Rattle.gnap_laws.proofs.Causes.{if_both, if_known}

abbrev pub MoreCause : List Note → ℕ → Action → Type 0
MoreCause trail now (OpenAtOnce o request) = nat_le o.end now ≡ false
MoreCause trail now (OpenAsking o request modes) = nat_le o.end now ≡ false
MoreCause trail now (TakeDecision r rights request) = (handle : Text) × (round_by_handle trail now handle ≡ Some r)
MoreCause trail now _ = Unit {0}

found : {A : Type 0} (P : Action → Type 0) (code : ErrorCode) (act : A → Action) (x : Option A) → P (Refuse code) → ((y : A) → x ≡ Some y → P (act y))
    → P (on_found code act x)
found P code act None r h = r
found P code act (Some y) r h = h y refl

owned : (P : Action → Type 0) (act : OpeningNote → Action) (owner key : Text) (o : OpeningNote) → ((code : ErrorCode) → P (Refuse code)) → P (act o)
    → P (with_owner act owner key o)
owned P act owner key o r h = if_both P (same_text owner key) (act o) (Refuse _) h (r _)

asked : (P : Action → Type 0) (ask : Modes → Action) (modes : Option Modes) → ((code : ErrorCode) → P (Refuse code)) → ((m : Modes) → P (ask m))
    → P (ask_user ask modes)
asked P ask None r h = r _
asked P ask (Some m) r h = h m

not_ended : (now : ℕ) (not_after : Option ℕ) → is_past now not_after ≡ false → nat_le (end_of now not_after) now ≡ false
not_ended now None h = grind (arith, nat_tests)
not_ended now (Some x) h = grind (arith, nat_tests)

begin_more : (s : Settled) (trail : List Note) (now : ℕ) (o : OpeningNote) (request : GrantRequest) → nat_le o.end now ≡ false
    → MoreCause trail now (begin_by s trail now o request)
begin_more Never trail now o request h = tt
begin_more AtOnce trail now o request h = if_both (MoreCause trail now) (pass_limit (live_tokens trail now) _) (Refuse _) (OpenAtOnce o request) tt h
begin_more ByAsking trail now o request h = asked (MoreCause trail now) (OpenAsking o request) request.modes (λ c. tt) (λ m. h)

collect_by_more : (v : Verdict) (trail : List Note) (now : ℕ) (o : OpeningNote) (d : DecisionNote) (w : TermsNote)
    → MoreCause trail now (collect_by v trail now o d w)
collect_by_more Deny trail now o d w = tt
collect_by_more Unknown trail now o d w = tt
collect_by_more Grant trail now o d w = if_both (MoreCause trail now) (pass_limit (live_tokens trail now) _) (Refuse _)
    (CollectDecision o w d (decided_asks d.rights w)) tt tt

collect_more : (trail : List Note) (now : ℕ) (o : OpeningNote) (d : Option DecisionNote) → MoreCause trail now (collect_or_renew trail now o d)
collect_more trail now o None = tt
collect_more trail now o (Some d) = found (MoreCause trail now) _ (collect_by d.verdict trail now o d) (terms_of trail o.grant) tt
    (λ w e. collect_by_more d.verdict trail now o d w)

continue_more : (s : GrantState) (trail : List Note) (now : ℕ) (o : OpeningNote) (reference : Option Text)
    → MoreCause trail now (continue_at s trail now o reference)
continue_more IsFinalized trail now o reference = tt
continue_more IsApproved trail now o reference = if_both (MoreCause trail now) (is_some reference) _ _ tt
    (if_both (MoreCause trail now) (is_early trail now o) (Refuse _) (RenewDoor o) tt tt)
continue_more (IsPending r) trail now o reference =
    if_both (MoreCause trail now) (not (is_some reference) && is_early trail now o) (Refuse _) _ tt
    (if_both (MoreCause trail now) (not (is_some (decision_of trail o.grant)) && nat_le r.until now) (RefuseAndFinalize o _) _ tt
    (if_both (MoreCause trail now) (not (is_some reference) && is_some r.modes.finish) (Refuse _) _ tt
    (if_both (MoreCause trail now) (is_wrong reference (decision_of trail o.grant)) _ _
    (if_both (MoreCause trail now) (nat_le wrong_limit (_ + 1)) (LastWrongReference o) (WrongReference o) tt tt)
    (collect_more trail now o (decision_of trail o.grant)))))

modify_more : (s : Settled) (trail : List Note) (now : ℕ) (o : OpeningNote) (request : GrantRequest) → MoreCause trail now (modify_by s trail now o request)
modify_more Never trail now o request = tt
modify_more AtOnce trail now o request = if_both (MoreCause trail now) (pass_limit (other_live_tokens trail now o) _) (Refuse _)
    (ModifyAtOnce o _ (tokens_of trail now o) request) tt tt
modify_more ByAsking trail now o request = asked (MoreCause trail now) (ModifyAsking o (tokens_of trail now o) request) request.modes (λ c. tt) (λ m. tt)

show_more : (trail : List Note) (now : ℕ) (names : List Text) (binding : Option Binding) (wanted : Option (List Right)) (t : Option TokenNote)
    → MoreCause trail now (show_token names binding wanted t)
show_more trail now names binding wanted None = tt
show_more trail now names binding wanted (Some t) = if_both (MoreCause trail now) (suits names binding wanted t.rights t.bearer) (ShowToken _ t) ShowInactive tt
    tt

rotate_more : (rules : Setup) (trail : List Note) (now : ℕ) (new_key : Option Text) (t : TokenNote) (o : OpeningNote)
    → MoreCause trail now (rotate_key rules new_key t o)
rotate_more rules trail now None t o = tt
rotate_more rules trail now (Some k) t o = if_both (MoreCause trail now) (can_bind rules t.bearer k) (RotateToken o t k) (Refuse _) tt tt

pub more_cause : (rules : Setup) (supply : Supply) (trail : List Note) (call : Call) → MoreCause trail supply.now (action_of rules supply trail call)
more_cause rules supply trail (Begin key request not_after) =
    if_known (MoreCause trail supply.now) (is_past supply.now not_after || nat_le live_limit (live_grants trail supply.now)) (Refuse _) _ (λ e. tt)
    (λ e. begin_more (settle rules key [] request) trail supply.now (opening trail supply.now key request not_after) request
    (not_ended supply.now not_after (or_parts (is_past supply.now not_after) _ e).0))
more_cause rules supply trail (Introspect server value binding wanted) =
    if_both (MoreCause trail supply.now) (serves_all (server_names (key_of rules server)) wanted) _ (Refuse _)
    (show_more trail supply.now (server_names (key_of rules server)) binding wanted (live_token trail supply.now value)) tt
more_cause rules supply trail Lapse = tt
more_cause rules supply trail (Look front handle) = found (MoreCause trail supply.now) _ _ (round_by_handle trail supply.now handle) tt
    (λ r a. found (MoreCause trail supply.now) _ _ (terms_of trail r.grant) tt
    (λ w b. found (MoreCause trail supply.now) _ _ (first_of (opening_in r.grant) trail) tt (λ o c. tt)))
more_cause rules supply trail (FindCode front code) = found (MoreCause trail supply.now) _ ShowHandle (round_by_code trail supply.now code) tt (λ r e. tt)
more_cause rules supply trail (Decide front request) = found (MoreCause trail supply.now) _ _ (round_by_handle trail supply.now request.handle) tt
    (λ r a. found (MoreCause trail supply.now) _ _ (terms_of trail r.grant) tt
    (λ w b. if_both (MoreCause trail supply.now) (may_decide request.verdict (asked_rights w.asks) (rights_or (asked_rights w.asks) request.rights))
    (TakeDecision r _ request) (Refuse _) (request.handle, a) tt))
more_cause rules supply trail (Continue key value reference) = found (MoreCause trail supply.now) _ _ (named_grant trail supply.now value) tt
    (λ o e. owned (MoreCause trail supply.now) (λ x. continue_at (grant_state trail x.grant supply.now) trail supply.now x reference) o.key key o (λ c. tt)
    (continue_more (grant_state trail o.grant supply.now) trail supply.now o reference))
more_cause rules supply trail (Modify key value request) = found (MoreCause trail supply.now) _ _ (named_grant trail supply.now value) tt
    (λ o e. owned (MoreCause trail supply.now) (λ x. modify_by (settle rules x.key (consent_of trail x.grant) request) trail supply.now x request) o.key key o
    (λ c. tt) (modify_more (settle rules o.key (consent_of trail o.grant) request) trail supply.now o request))
more_cause rules supply trail (Cancel key value) = found (MoreCause trail supply.now) _ _ (named_grant trail supply.now value) tt
    (λ o e. owned (MoreCause trail supply.now) CancelGrant o.key key o (λ c. tt) tt)
more_cause rules supply trail (Rotate key value new_key) = found (MoreCause trail supply.now) _ _ (managed_token trail supply.now value) tt
    (λ t e. if_both (MoreCause trail supply.now) (is_live trail supply.now t) _ (Refuse _)
    (found (MoreCause trail supply.now) _ _ (first_of (opening_in t.grant) trail) tt
    (λ o is. owned (MoreCause trail supply.now) (rotate_key rules new_key t) t.key key o (λ c. tt) (rotate_more rules trail supply.now new_key t o))) tt)
more_cause rules supply trail (Revoke key value) = found (MoreCause trail supply.now) _ _ (managed_token trail supply.now value) tt
    (λ t e. found (MoreCause trail supply.now) _ _ (first_of (opening_in t.grant) trail) tt
    (λ o is. owned (MoreCause trail supply.now) (λ o. RevokeToken t (list_any (is_retirement t.serial) trail)) t.key key o (λ c. tt) tt))
