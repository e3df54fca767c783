-- Each error reply has its cause.
use Rattle.std.proofs.Common.{arith, ℕ, ◌≡◌, ◌≢◌, ◌≤◌, ◌<◌, ◌+◌, ◌⊎◌, inl, inr, Bool, true, false, List, [], ◌∷◌, length, refl, sym, ◌∙◌, ap, subst, Option, Some, None}
use Rattle.std.specs.Prelude.{is_some, if◌then◌else◌, ◌&&◌, ◌||◌, not, nat_le, nat_lt}
use Rattle.std.specs.List.{list_any, filter_map, cons_option}
use Rattle.std.proofs.lemmas.Bool.{leb-true, leb-false, ltb-true, and_parts, or_cases}
use Rattle.std.proofs.lemmas.Slice.Eq.{bytes_eq-Decides}
use Rattle.gnap_model.specs.Common.{Text, same_text, first_of, some_if}
use Rattle.gnap_model.specs.Limits.{wrong_limit, live_limit}
use Rattle.gnap_laws.specs.Types.{Right, Modes, GrantRequest, Verdict, Binding, Setup, Call, ErrorCode, OpeningNote, TermsNote, RoundNote, DecisionNote, TokenNote, Note}
use Rattle.gnap_model.specs.Rights.{covers}
use Rattle.gnap_model.specs.Asked.{asked_rights, has_start}
use Rattle.gnap_model.specs.declared.objects.Verdict.TheVariants.{Grant, Deny, Unknown}
use Rattle.gnap_model.specs.Keys.{key_of, is_client, server_names}
use Rattle.gnap_model.specs.declared.calls.Call.TheVariants.{Begin, Introspect, Lapse, Look, FindCode, Decide, Continue, Modify, Cancel, Rotate, Revoke}
use Rattle.gnap_model.specs.declared.calls.Reply.TheVariants.{Error}
use Rattle.gnap_model.specs.declared.objects.ErrorCode.TheVariants.{InvalidRequest, InvalidClient, InvalidInteraction, InvalidRotation, InvalidContinuation, RequestDenied, UnknownInteraction, TooFast, TooManyAttempts, InvalidAccess}
use Rattle.gnap_model.specs.declared.notes.Note.TheVariants.{Opened}
use Rattle.gnap_model.specs.Standing.{GrantState, grant_state, is_finalized, earliest_in, named_grant, decision_of, wrongs_of, terms_of, consent_of, opening_in, live_grants, live_tokens, live_token, managed_token, is_live, is_retirement, is_undecided, live_round, interaction_in, round_by_handle, round_by_code}
use Rattle.gnap_model.specs.Standing.GrantState.{IsPending, IsApproved, IsFinalized}
use Rattle.gnap_model.specs.Judging.{Settled, settle, suits, serves_all}
use Rattle.gnap_model.specs.Judging.Settled.{AtOnce, ByAsking, Never}
use Rattle.gnap_model.specs.Actions.{Action, Supply, outcome_of, on_found, with_owner}
use Rattle.gnap_model.specs.Actions.Action.{Refuse, ShowToken, ShowInactive, OpenAtOnce, OpenAsking, TakeDecision, RenewDoor, CollectDecision, WrongReference, LastWrongReference, RefuseAndFinalize, ModifyAtOnce, ModifyAsking, CancelGrant, RotateToken, RevokeToken}
use Rattle.gnap_model.specs.Begin.{pass_limit, is_past, begin_by, ask_user, opening, show_token}
use Rattle.gnap_model.specs.Continue.{decided_asks, collect_by, collect_or_renew, is_wrong, is_early, is_before, continue_round, continue_at}
use Rattle.gnap_model.specs.Change.{tokens_of, other_live_tokens, modify_by}
use Rattle.gnap_model.specs.Manage.{can_bind, rotate_key}
use Rattle.gnap_model.specs.Front.{rights_or, may_decide}
use Rattle.gnap_laws.specs.Refusals.{HasCause, IsOwner, NamesRound, caller}
use Rattle.gnap_model.specs.Answer.{action_of}
use Rattle.gnap_laws.proofs.Causes.{if_known}
use Rattle.gnap_model.proofs.LookUps.{some_if_some, option_or_cases}
use Rattle.gnap_model.proofs.TrailNotes.{pending_grant, opened_found, HasNote, grant_named, managed_issued}
use Rattle.gnap_laws.proofs.Opened.{HaveOrigins, opened_terms, issued_opened}

-- the error replies of an action have their cause
abbrev pub Explained : Setup → List Note → ℕ → Call → Action → Type 0
Explained rules trail now call (Refuse code) = HasCause rules trail now call code
Explained rules trail now call (WrongReference o) = HasCause rules trail now call InvalidInteraction
Explained rules trail now call (LastWrongReference o) = HasCause rules trail now call TooManyAttempts
Explained rules trail now call (RefuseAndFinalize o code) = HasCause rules trail now call code
Explained rules trail now call _ = Unit {0}

-- what the laws on limits say of the notes
pub record KeepsLimits (trail : List Note) (now : ℕ) : Type 0 where
  pub grants : live_grants trail now ≤ live_limit
  pub wrongs : (grant : ℕ) (round : RoundNote) → grant_state trail grant now ≡ IsPending round → wrongs_of trail grant < wrong_limit

-- ---- small steps

none_is : {A : Type 0} (x : Option A) → not (is_some x) ≡ true → x ≡ None
none_is None e = refl
none_is (Some x) e = cc e

other_key : (owner key : Text) → same_text owner key ≡ false → owner ≢ key
other_key owner key e same = let yes = (bytes_eq-Decides owner key).1 same in cc (sym yes ∙ e)

past_end : (now : ℕ) (not_after : Option ℕ) → is_past now not_after ≡ true → (end : ℕ) × (not_after ≡ Some end) × (end ≤ now)
past_end now None e = cc e
past_end now (Some end) e = (end, refl, leb-true end now e)

before_first : (now : ℕ) (earliest : Option ℕ) → is_before now earliest ≡ true → (moment : ℕ) × (earliest ≡ Some moment) × (now < moment)
before_first now None e = cc e
before_first now (Some moment) e = (moment, refl, ltb-true now moment e)

asking_starts : (a b c : Bool) → (if a then AtOnce else if b && c then ByAsking else Never) ≡ ByAsking → c ≡ true
asking_starts true b c e = cc e
asking_starts false true true e = refl
asking_starts false true false e = cc e
asking_starts false false c e = cc e

decides_more : (v : Verdict) (asked rights : List Right) → may_decide v asked rights ≡ false → (v ≡ Grant) × (covers asked rights ≡ false)
decides_more Grant asked rights e = (refl, e)
decides_more Deny asked rights e = cc e
decides_more Unknown asked rights e = cc e

-- a grant that a continuation value names is not finalized
named_goes_on : (trail : List Note) (now : ℕ) (v : Text) (o : OpeningNote) → named_grant trail now v ≡ Some o → grant_state trail o.grant now ≡ IsFinalized → ⊥
named_goes_on trail now v o e over = let no = sym (ap (λ s. not (is_finalized s)) over) ∙ (grant_named trail now v o e).goes_on in cc no

-- ---- the grant of a live interaction was opened

cons_found : {A B : Type 0} (look : A → Option B) (x : Option A) (xs : List A) (y : B) → first_of look (cons_option x xs) ≡ Some y
    → ((a : A) × (x ≡ Some a) × (look a ≡ Some y)) ⊎ (first_of look xs ≡ Some y)
cons_found look None xs y e = inr e
cons_found look (Some a) xs y e = elim (option_or_cases (look a) (first_of look xs) y e) [ inl h ↦ inl (a, refl, h) | inr h ↦ inr h.1 ]

filtered_noted : {A B : Type 0} (pick : Note → Option A) (look : A → Option B) (ns : List Note) (y : B) → first_of look (filter_map pick ns) ≡ Some y
    → (n : Note) × (a : A) × HasNote ns n × (pick n ≡ Some a) × (look a ≡ Some y)
filtered_noted pick look [] y e = cc e
filtered_noted pick look (n ∷ ns) y e = elim (cons_found look (pick n) (filter_map pick ns) y e) [
  | inl h ↦ (n, h.0, inl refl, h.1, h.2)
  | inr h ↦ let r = filtered_noted pick look ns y h in (r.0, r.1, inr r.2, r.3, r.4)
]

-- a note of an opened grant with this number is there
abbrev IsOpened : List Note → ℕ → Type 0
IsOpened trail g = (o : OpeningNote) × HasNote trail (Opened o) × (o.grant ≡ g)

interaction_opened : (trail : List Note) (now : ℕ) (n : Note) (r : RoundNote) → HasNote trail n → interaction_in trail now n ≡ Some r → IsOpened trail r.grant
interaction_opened trail now (Opened o) r k h = at (grant_state trail o.grant now) refl h
  where
    at : (s : GrantState) → grant_state trail o.grant now ≡ s → live_round trail now s ≡ Some r → IsOpened trail r.grant
    at (IsPending q) e live =
        let both = some_if_some (is_undecided trail q.grant && nat_lt now q.until) q r live in
        (o, k, sym (pending_grant trail o.grant now r (e ∙ ap IsPending both.1)))
    at IsApproved e live = cc live
    at IsFinalized e live = cc live
interaction_opened trail now _ r k h = cc h

handle_opened : (trail : List Note) (now : ℕ) (handle : Text) (r : RoundNote) → round_by_handle trail now handle ≡ Some r → IsOpened trail r.grant
handle_opened trail now handle r e =
    let found = filtered_noted (interaction_in trail now) (λ (q : RoundNote). some_if (same_text q.handle handle) q) trail r e in
    let q : RoundNote = found.1 in
    let same : q ≡ r = (some_if_some (same_text q.handle handle) q r found.4).1 in
    subst (λ (x : RoundNote). IsOpened trail x.grant) same (interaction_opened trail now found.0 q found.2 found.3)

-- ---- requests

asking_why : (rules : Setup) (trail : List Note) (now : ℕ) (call : Call) (ask : Modes → Action) (modes : Option Modes) → has_start modes ≡ true
    → ((m : Modes) → Explained rules trail now call (ask m)) → Explained rules trail now call (ask_user ask modes)
asking_why rules trail now call ask None e h = cc e
asking_why rules trail now call ask (Some m) e h = h m

settle_starts : (rules : Setup) (key : Text) (consent : List Right) (request : GrantRequest) → settle rules key consent request ≡ ByAsking
    → has_start request.modes ≡ true
settle_starts rules key consent request e = asking_starts _ _ (has_start request.modes) e

begin_why : (rules : Setup) (trail : List Note) (now : ℕ) (key : Text) (request : GrantRequest) (not_after : Option ℕ) (o : OpeningNote) (s : Settled)
    → settle rules key [] request ≡ s → Explained rules trail now (Begin key request not_after) (begin_by s trail now o request)
begin_why rules trail now key request not_after o Never e = inl e
begin_why rules trail now key request not_after o AtOnce e =
    if_known (Explained rules trail now (Begin key request not_after)) (pass_limit (live_tokens trail now) (length request.asks)) (Refuse RequestDenied)
    (OpenAtOnce o request)
    (λ over. inr (inr (inr (e, ltb-true live_limit (length (live_tokens trail now) + length request.asks) over)))) (λ under. tt)
begin_why rules trail now key request not_after o ByAsking e =
    asking_why rules trail now (Begin key request not_after) (OpenAsking o request) request.modes (settle_starts rules key [] request e) (λ m. tt)

modify_why : (rules : Setup) (trail : List Note) (now : ℕ) (key value : Text) (request : GrantRequest) (o : OpeningNote) (s : Settled)
    → named_grant trail now value ≡ Some o → settle rules o.key (consent_of trail o.grant) request ≡ s
    → Explained rules trail now (Modify key value request) (modify_by s trail now o request)
modify_why rules trail now key value request o Never named e = (o, named, inl e)
modify_why rules trail now key value request o AtOnce named e =
    if_known (Explained rules trail now (Modify key value request)) (pass_limit (other_live_tokens trail now o) (length request.asks)) (Refuse RequestDenied)
    (ModifyAtOnce o (consent_of trail o.grant) (tokens_of trail now o) request)
    (λ over. (o, named, inr (e, ltb-true live_limit (length (other_live_tokens trail now o) + length request.asks) over))) (λ under. tt)
modify_why rules trail now key value request o ByAsking named e =
    asking_why rules trail now (Modify key value request) (ModifyAsking o (tokens_of trail now o) request) request.modes
    (settle_starts rules o.key (consent_of trail o.grant) request e) (λ m. tt)

-- ---- values that name something

found_why : {A : Type 0} (rules : Setup) (trail : List Note) (now : ℕ) (call : Call) (code : ErrorCode) (act : A → Action) (found : Option A)
    → (found ≡ None → HasCause rules trail now call code) → ((x : A) → found ≡ Some x → Explained rules trail now call (act x))
    → Explained rules trail now call (on_found code act found)
found_why rules trail now call code act None none some = none refl
found_why rules trail now call code act (Some x) none some = some x refl

owner_why : (rules : Setup) (trail : List Note) (now : ℕ) (call : Call) (act : OpeningNote → Action) (owner : Text) (o : OpeningNote)
    → IsOwner trail now call owner
    → (owner ≡ caller call → Explained rules trail now call (act o)) → Explained rules trail now call (with_owner act owner (caller call) o)
owner_why rules trail now call act owner o owns h =
    if_known (Explained rules trail now call) (same_text owner (caller call)) (act o) (Refuse InvalidClient)
    (λ same. h ((bytes_eq-Decides owner (caller call)).0 same)) (λ other. (owner, owns, other_key owner (caller call) other))

-- ---- continuations

abbrev In : List Note → ℕ → Text → OpeningNote → RoundNote → Type 0
In = NamesRound

collect_why : (rules : Setup) (trail : List Note) (now : ℕ) (key value : Text) (reference : Option Text) (o : OpeningNote) (r : RoundNote) (d : DecisionNote)
    (w : TermsNote) (v : Verdict)
    → In trail now value o r → decision_of trail o.grant ≡ Some d → d.verdict ≡ v → terms_of trail o.grant ≡ Some w
    → Explained rules trail now (Continue key value reference) (collect_by v trail now o d w)
collect_why rules trail now key value reference o r d w Deny names decided e terms = (o, d, ((r, names), decided, e))
collect_why rules trail now key value reference o r d w Unknown names decided e terms = (o, d, ((r, names), decided, e))
collect_why rules trail now key value reference o r d w Grant names decided e terms =
    if_known (Explained rules trail now (Continue key value reference)) (pass_limit (live_tokens trail now) (length (decided_asks d.rights w)))
    (Refuse RequestDenied)
    (CollectDecision o w d (decided_asks d.rights w))
    (λ over. (o, d, w, ((r, names), decided, e), terms, ltb-true live_limit (length (live_tokens trail now) + length (decided_asks d.rights w)) over))
    (λ under. tt)

collect_or_renew_why : (rules : Setup) (trail : List Note) (now : ℕ) (key value : Text) (reference : Option Text) (o : OpeningNote) (r : RoundNote)
    (d : Option DecisionNote)
    → HaveOrigins trail → In trail now value o r → decision_of trail o.grant ≡ d
    → Explained rules trail now (Continue key value reference) (collect_or_renew trail now o d)
collect_or_renew_why rules trail now key value reference o r None origins names decided = tt
collect_or_renew_why rules trail now key value reference o r (Some d) origins names decided =
    let has = opened_terms trail o origins (grant_named trail now value o names.0).opened in
    let found : terms_of trail o.grant ≡ Some has.0 = has.1 in
    subst (λ (t : Option TermsNote). Explained rules trail now (Continue key value reference) (on_found InvalidRequest (collect_by d.verdict trail now o d) t))
    (sym found)
    (collect_why rules trail now key value reference o r d has.0 d.verdict names decided refl found)

round_why : (rules : Setup) (trail : List Note) (now : ℕ) (key value : Text) (reference : Option Text) (o : OpeningNote) (r : RoundNote)
    (d : Option DecisionNote)
    → HaveOrigins trail → wrongs_of trail o.grant < wrong_limit → In trail now value o r → decision_of trail o.grant ≡ d
    → Explained rules trail now (Continue key value reference) (continue_round trail now o reference d r)
round_why rules trail now key value reference o r d origins few names decided =
    if_known P (not (is_some d) && nat_le r.until now) (RefuseAndFinalize o InvalidInteraction) _
    (λ late. let both = and_parts (not (is_some d)) (nat_le r.until now) late in (o, r, names, inl (decided ∙ none_is d both.0, leb-true r.until now both.1)))
    (λ open_yet. if_known P (not (is_some reference) && is_some r.modes.finish) (Refuse InvalidRequest) _
    (λ poll. let both = and_parts (not (is_some reference)) (is_some r.modes.finish) poll in (o, r, names, none_is reference both.0, both.1))
    (λ given. if_known P (is_wrong reference d) _ (collect_or_renew trail now o d)
    (λ wrong. let is : is_wrong reference (decision_of trail o.grant) ≡ true = ap (is_wrong reference) decided ∙ wrong in
    if_known P (nat_le wrong_limit (wrongs_of trail o.grant + 1)) (LastWrongReference o) (WrongReference o)
    (λ last. let fifth = leb-true wrong_limit (wrongs_of trail o.grant + 1) last in inr (o, r, names, is, omega arith))
    (λ more. (o, r, names, inr (is, leb-false wrong_limit (wrongs_of trail o.grant + 1) more))))
    (λ right. collect_or_renew_why rules trail now key value reference o r d origins names decided)))
  where
    P : Action → Type 0
    P = Explained rules trail now (Continue key value reference)

continue_why : (rules : Setup) (trail : List Note) (now : ℕ) (key value : Text) (reference : Option Text) (o : OpeningNote) (s : GrantState)
    → HaveOrigins trail → KeepsLimits trail now → named_grant trail now value ≡ Some o → grant_state trail o.grant now ≡ s
    → Explained rules trail now (Continue key value reference) (continue_at s trail now o reference)
continue_why rules trail now key value reference o (IsPending r) origins limits named e =
    if_known (Explained rules trail now (Continue key value reference)) (not (is_some reference) && is_early trail now o) (Refuse TooFast) _
    (λ early. let both = and_parts (not (is_some reference)) (is_early trail now o) early in
    let first = before_first now (first_of (earliest_in o.grant) trail) both.1 in (o, first.0, named, none_is reference both.0, first.1, first.2))
    (λ due. round_why rules trail now key value reference o r (decision_of trail o.grant) origins (limits.wrongs o.grant r e) (named, e) refl)
continue_why rules trail now key value reference o IsApproved origins limits named e =
    if_known (Explained rules trail now (Continue key value reference)) (is_some reference) (RefuseAndFinalize o TooManyAttempts) _
    (λ given. inl (o, named, e, given))
    (λ none. if_known (Explained rules trail now (Continue key value reference)) (is_early trail now o) (Refuse TooFast) (RenewDoor o)
    (λ early. let first = before_first now (first_of (earliest_in o.grant) trail) early in
    (o, first.0, named, none_is reference (ap not none), first.1, first.2))
    (λ due. tt))
continue_why rules trail now key value reference o IsFinalized origins limits named e = absurd (named_goes_on trail now value o named e)

-- ---- management

unbound : (bearer client : Bool) → (not bearer && client) ≡ false → (bearer ≡ true) ⊎ (client ≡ false)
unbound true client e = inl refl
unbound false client e = inr e

rotate_why : (rules : Setup) (trail : List Note) (now : ℕ) (key value : Text) (new_key : Option Text) (t : TokenNote) (o : OpeningNote)
    → managed_token trail now value ≡ Some t → is_live trail now t ≡ true → t.key ≡ key
    → Explained rules trail now (Rotate key value new_key) (rotate_key rules new_key t o)
rotate_why rules trail now key value (Some named) t o managed live same =
    if_known (Explained rules trail now (Rotate key value (Some named))) (can_bind rules t.bearer named) (RotateToken o t named) (Refuse InvalidRotation)
    (λ yes. tt) (λ no. inr (inr (t, named, managed, live, same, refl, unbound t.bearer (is_client (key_of rules named)) no)))
rotate_why rules trail now key value None t o managed live same = tt

show_why : (rules : Setup) (trail : List Note) (now : ℕ) (call : Call) (names : List Text) (binding : Option Binding) (wanted : Option (List Right))
    (t : Option TokenNote)
    → Explained rules trail now call (show_token names binding wanted t)
show_why rules trail now call names binding wanted None = tt
show_why rules trail now call names binding wanted (Some t) =
    if_known (Explained rules trail now call) (suits names binding wanted t.rights t.bearer) (ShowToken _ t) ShowInactive (λ yes. tt) (λ no. tt)

-- ---- every call

round_terms : (trail : List Note) (r : RoundNote) → HaveOrigins trail → IsOpened trail r.grant → (w : TermsNote) × (terms_of trail r.grant ≡ Some w)
round_terms trail r origins opened =
    let has = opened_terms trail opened.0 origins opened.1 in (has.0, subst (λ g. terms_of trail g ≡ Some has.0) opened.2 has.1)

there : {A B : Type 0} (x : Option A) (a : A) → x ≡ Some a → x ≡ None → B
there x a some none = let no = sym some ∙ none in cc no

pub explained : (rules : Setup) (supply : Supply) (trail : List Note) (call : Call) → HaveOrigins trail → KeepsLimits trail supply.now
    → Explained rules trail supply.now call (action_of rules supply trail call)
explained rules supply trail (Begin key request not_after) origins limits =
    if_known (Explained rules trail supply.now (Begin key request not_after)) (is_past supply.now not_after || nat_le live_limit (live_grants trail supply.now))
    (Refuse RequestDenied) _
    (λ none. elim (or_cases (is_past supply.now not_after) (nat_le live_limit (live_grants trail supply.now)) none) [
      | inl past ↦ inr (inl (past_end supply.now not_after past))
      | inr full ↦ inr (inr (inl (let least = leb-true live_limit (live_grants trail supply.now) full in let most = limits.grants in omega arith)))
    ])
    (λ some. begin_why rules trail supply.now key request not_after (opening trail supply.now key request not_after) (settle rules key [] request) refl)
explained rules supply trail (Introspect server value binding wanted) origins limits =
    if_known (Explained rules trail supply.now (Introspect server value binding wanted)) (serves_all (server_names (key_of rules server)) wanted) _
    (Refuse InvalidAccess)
    (λ served. show_why rules trail supply.now (Introspect server value binding wanted) (server_names (key_of rules server)) binding wanted
    (live_token trail supply.now value)) (λ unserved. unserved)
explained rules supply trail Lapse origins limits = tt
explained rules supply trail (Look front handle) origins limits =
    found_why rules trail supply.now (Look front handle) UnknownInteraction _ (round_by_handle trail supply.now handle) (λ none. none)
    (λ r found. let opened = handle_opened trail supply.now handle r found in
    let terms = round_terms trail r origins opened in
    let opens = opened_found trail opened.0 r.grant opened.1 opened.2 in
    found_why rules trail supply.now (Look front handle) UnknownInteraction _ (terms_of trail r.grant) (there (terms_of trail r.grant) terms.0 terms.1)
    (λ w is. found_why rules trail supply.now (Look front handle) UnknownInteraction _ (first_of (opening_in r.grant) trail)
    (there (first_of (opening_in r.grant) trail) opens.0 opens.1) (λ o at. tt)))
explained rules supply trail (FindCode front code) origins limits =
    found_why rules trail supply.now (FindCode front code) UnknownInteraction _ (round_by_code trail supply.now code) (λ none. none) (λ r found. tt)
explained rules supply trail (Decide front request) origins limits =
    found_why rules trail supply.now (Decide front request) UnknownInteraction _ (round_by_handle trail supply.now request.handle) (λ none. none)
    (λ r found. let terms = round_terms trail r origins (handle_opened trail supply.now request.handle r found) in
    found_why rules trail supply.now (Decide front request) UnknownInteraction _ (terms_of trail r.grant) (there (terms_of trail r.grant) terms.0 terms.1)
    (λ w is. if_known (Explained rules trail supply.now (Decide front request))
    (may_decide request.verdict (asked_rights w.asks) (rights_or (asked_rights w.asks) request.rights)) (TakeDecision r _ request) (Refuse InvalidRequest)
    (λ may. tt) (λ more. let why = decides_more request.verdict (asked_rights w.asks) (rights_or (asked_rights w.asks) request.rights) more in
    (r, w, found, is, why.0, why.1))))
explained rules supply trail (Continue key value reference) origins limits =
    found_why rules trail supply.now (Continue key value reference) InvalidContinuation _ (named_grant trail supply.now value) (λ none. none)
    (λ o named. owner_why rules trail supply.now (Continue key value reference)
    (λ o. continue_at (grant_state trail o.grant supply.now) trail supply.now o reference) o.key o (o, named, refl)
    (λ same. continue_why rules trail supply.now key value reference o (grant_state trail o.grant supply.now) origins limits named refl))
explained rules supply trail (Modify key value request) origins limits =
    found_why rules trail supply.now (Modify key value request) InvalidContinuation _ (named_grant trail supply.now value) (λ none. none)
    (λ o named. owner_why rules trail supply.now (Modify key value request)
    (λ o. modify_by (settle rules o.key (consent_of trail o.grant) request) trail supply.now o request) o.key o (o, named, refl)
    (λ same. modify_why rules trail supply.now key value request o (settle rules o.key (consent_of trail o.grant) request) named refl))
explained rules supply trail (Cancel key value) origins limits =
    found_why rules trail supply.now (Cancel key value) InvalidContinuation _ (named_grant trail supply.now value) (λ none. none)
    (λ o named. owner_why rules trail supply.now (Cancel key value) CancelGrant o.key o (o, named, refl) (λ same. tt))
explained rules supply trail (Rotate key value new_key) origins limits =
    found_why rules trail supply.now (Rotate key value new_key) InvalidRotation _ (managed_token trail supply.now value) (λ none. inl none)
    (λ t managed. let opens = issued_opened trail t origins (managed_issued trail supply.now value t managed).0 in
    if_known (Explained rules trail supply.now (Rotate key value new_key)) (is_live trail supply.now t) _ (Refuse InvalidRotation)
    (λ live. found_why rules trail supply.now (Rotate key value new_key) InvalidRotation _ (first_of (opening_in t.grant) trail)
    (there (first_of (opening_in t.grant) trail) opens.0 opens.1)
    (λ o found. owner_why rules trail supply.now (Rotate key value new_key) (rotate_key rules new_key t) t.key o (t, managed, refl)
    (λ same. rotate_why rules trail supply.now key value new_key t o managed live same)))
    (λ dead. inr (inl (t, managed, dead))))
explained rules supply trail (Revoke key value) origins limits =
    found_why rules trail supply.now (Revoke key value) InvalidRequest _ (managed_token trail supply.now value) (λ none. none)
    (λ t managed. let opens = issued_opened trail t origins (managed_issued trail supply.now value t managed).0 in
    found_why rules trail supply.now (Revoke key value) InvalidRequest _ (first_of (opening_in t.grant) trail)
    (there (first_of (opening_in t.grant) trail) opens.0 opens.1)
    (λ o found. owner_why rules trail supply.now (Revoke key value) (λ o. RevokeToken t (list_any (is_retirement t.serial) trail)) t.key o (t, managed, refl)
    (λ same. tt)))

-- ---- so an error reply has its cause

error_code : (a b : ErrorCode) → Error a ≡ Error b → a ≡ b
error_code a b e = cc e

pub error_cause : (rules : Setup) (trail : List Note) (now : ℕ) (call : Call) (supply : Supply) (action : Action) (code : ErrorCode)
    → Explained rules trail now call action → (outcome_of supply action).reply ≡ Error code → HasCause rules trail now call code
error_cause rules trail now call supply (Refuse c) code h e = subst (HasCause rules trail now call) (error_code c code e) h
error_cause rules trail now call supply (WrongReference o) code h e = subst (HasCause rules trail now call) (error_code InvalidInteraction code e) h
error_cause rules trail now call supply (LastWrongReference o) code h e = subst (HasCause rules trail now call) (error_code TooManyAttempts code e) h
error_cause rules trail now call supply (RefuseAndFinalize o c) code h e = subst (HasCause rules trail now call) (error_code c code e) h
error_cause rules trail now call supply _ code h e = cc e
