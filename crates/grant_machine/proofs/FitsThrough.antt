-- Where the calls of a history fit, so do its notes and its replies.
use Rattle.std.proofs.Common.{◌≡◌, ℕ, ◌+◌, Bool, true, false, List, [], ◌∷◌, ◌++◌, length, reverse, refl, sym, subst, append_assoc, append-nil, Option, Some, None}
use Rattle.std.specs.List.{AllByRecursion}
use Rattle.std.proofs.lemmas.List.{reverse-reverse}
use Rattle.std.specs.Option.{IfSome}
use Rattle.std.specs.Prelude.{if◌then◌else◌, is_some, not, ◌&&◌, ◌||◌, nat_le}
use Rattle.histories.specs.History.{Legal, now, notes_of, entry_of}
use Rattle.histories.specs.Histories.{legal-front, notes-append}
use Rattle.histories.specs.Steps.{Enters}
use Rattle.access_rights.specs.Fits.{Fits, IsUtf8Or}
use Rattle.gnap_model.specs.Common.{Text, first_of, same_text}
use Rattle.gnap_model.specs.Rights.{serves, served_part}
use Rattle.gnap_model.specs.Asked.{asked_rights}
use Rattle.gnap_model.specs.Limits.{live_limit, wrong_limit}
use Rattle.gnap_model.specs.Keys.{key_of, server_names}
use Rattle.gnap_model.specs.Standing.{GrantState, opening_in, grant_state, named_grant, managed_token, live_token, live_tokens, live_grants, decision_of, wrongs_of, terms_of, consent_of, round_by_handle, round_by_code, is_live}
use Rattle.gnap_model.specs.Standing.GrantState.{IsPending, IsApproved, IsFinalized}
use Rattle.gnap_model.specs.Judging.{Settled, settle, suits, serves_all}
use Rattle.gnap_model.specs.Judging.Settled.{AtOnce, ByAsking, Never}
use Rattle.gnap_model.specs.Actions.{Action, Supply, on_found, with_key, with_owner}
use Rattle.gnap_model.specs.Actions.Action.{Refuse, ShowToken, ShowInactive, ShowHandle, TakeDecision, OpenAtOnce, OpenAsking, RenewDoor, CollectDecision, WrongReference, LastWrongReference, RefuseAndFinalize, ModifyAtOnce, ModifyAsking, RotateToken}
use Rattle.gnap_model.specs.Begin.{begin_by, is_past, opening, pass_limit, show_token, ask_user}
use Rattle.gnap_model.specs.Continue.{with_grant, decided_asks, collect_by, collect_or_renew, is_wrong, is_early, wrong_reference, continue_round, continue_at}
use Rattle.gnap_model.specs.Change.{modify_by, tokens_of, other_live_tokens}
use Rattle.gnap_model.specs.Manage.{can_bind, rotate_key, on_grant}
use Rattle.gnap_model.specs.Front.{rights_or, may_decide, decide_on}
use Rattle.gnap_model.specs.Answer.{action_of, supply_of, gnap_answer}
use Rattle.gnap_model.specs.declared.calls.Call.{Call}
use Rattle.gnap_model.specs.declared.calls.Call.TheVariants.{Begin, Introspect, Lapse, Continue, Modify, Cancel, Rotate, Revoke, Look, FindCode, Decide}
use Rattle.gnap_model.specs.declared.calls.Reply.{Reply}
use Rattle.gnap_model.specs.declared.notes.Note.{Note}
use Rattle.gnap_model.specs.declared.notes.OpeningNote.{OpeningNote}
use Rattle.gnap_model.specs.declared.notes.TermsNote.{TermsNote}
use Rattle.gnap_model.specs.declared.notes.RoundNote.{RoundNote}
use Rattle.gnap_model.specs.declared.notes.DecisionNote.{DecisionNote}
use Rattle.gnap_model.specs.declared.notes.TokenNote.{TokenNote}
use Rattle.gnap_model.specs.declared.objects.Binding.{Binding}
use Rattle.gnap_model.specs.declared.objects.DecideRequest.{DecideRequest}
use Rattle.gnap_model.specs.declared.objects.GrantRequest.{GrantRequest}
use Rattle.gnap_model.specs.declared.objects.Modes.{Modes}
use Rattle.gnap_model.specs.declared.objects.Setup.{Setup}
use Rattle.gnap_model.specs.declared.objects.Verdict.{Verdict}
use Rattle.gnap_model.specs.declared.objects.Verdict.TheVariants.{Grant, Deny, Unknown}
use Rattle.gnap_model.specs.declared.objects.ErrorCode.{ErrorCode}
use Rattle.gnap_model.specs.declared.objects.ErrorCode.TheVariants.{RequestDenied, InvalidAccess, InvalidClient, InvalidContinuation, InvalidInteraction, InvalidRequest, InvalidRotation, TooFast, TooManyAttempts, UnknownInteraction}
use Rattle.gnap_model.specs.declared.rights.Right.{Right}
use Rattle.gnap_objects.specs.Fits.{AskFits}
use Rattle.gnap_objects.specs.CallsFit.{RightsFit, RightsFitOr, ModesFit, ModesFitOr, DecisionFits, TextsFit, ReplyFits, NoteFits, NotesFit}
use Rattle.signed_calls.specs.declared.signed.Signed.{Signed}
use Rattle.signed_calls.specs.Marks.{plain_notes}
use Rattle.signed_calls.specs.PlainPast.{is_refused_after, plain_past}
use Rattle.signed_calls.proofs.PlainPasts.{IsAnswered, is_answered, plain_is}
use Rattle.grant_machine.specs.Gnap.{GnapEntry, GnapFits, GrantEntry, SignedFits, gnap, grants}
use Rattle.grant_machine.proofs.ActionsFit.{ActionFits, outcome_fits}
use Rattle.grant_machine.proofs.FoundFits.{all-append, all-reverse, all-filter, if_both, OpeningFits, TermsFit, TokenNoteFits, RoundFits, DecidedFits, opening_fits, terms_fit, token_fits, named_fits, consent_fits, decision_of_fits, by_handle_fits, by_code_fits, asked_fit, decided_fit}

-- ---- from a call that fits, after notes that fit, to an action that fits

found_fits : {X : Type 0} (P : X → Type 0) (code : ErrorCode) (act : X → Action) (found : Option X) → IfSome found P → ((x : X) → P x → ActionFits (act x))
    → ActionFits (on_found code act found)
found_fits P code act None fit each = tt
found_fits P code act (Some x) fit each = each x fit

with_owner_fits : (act : OpeningNote → Action) (owner key : Text) (o : OpeningNote) → ActionFits (act o) → ActionFits (with_owner act owner key o)
with_owner_fits act owner key o fit = if_both ActionFits (same_text owner key) (act o) (Refuse InvalidClient) fit tt

with_grant_fits : (trail : List Note) (now : ℕ) (key value : Text) (act : OpeningNote → Action) → NotesFit trail
    → ((o : OpeningNote) → OpeningFits o → ActionFits (act o))
    → ActionFits (with_grant act key (named_grant trail now value))
with_grant_fits trail now key value act fit each =
    found_fits OpeningFits InvalidContinuation (with_key act key) (named_grant trail now value) (named_fits trail now value trail fit)
    (λ o h. with_owner_fits act o.key key o (each o h))

ask_user_fits : (ask : Modes → Action) (modes : Option Modes) → ModesFitOr modes → ((m : Modes) → ModesFit m → ActionFits (ask m))
    → ActionFits (ask_user ask modes)
ask_user_fits ask None fit each = tt
ask_user_fits ask (Some modes) fit each = each modes fit

begin_by_fits : (s : Settled) (trail : List Note) (now : ℕ) (o : OpeningNote) (request : GrantRequest) → OpeningFits o → AllByRecursion AskFits request.asks
    → ModesFitOr request.modes
    → ActionFits (begin_by s trail now o request)
begin_by_fits Never trail now o request key asks modes = tt
begin_by_fits AtOnce trail now o request key asks modes =
    if_both ActionFits (pass_limit (live_tokens trail now) (length request.asks)) (Refuse RequestDenied) (OpenAtOnce o request) tt (key, asks)
begin_by_fits ByAsking trail now o request key asks modes = ask_user_fits (OpenAsking o request) request.modes modes (λ m fit. (key, asks, fit))

modify_by_fits : (s : Settled) (trail : List Note) (now : ℕ) (o : OpeningNote) (request : GrantRequest) → NotesFit trail → OpeningFits o
    → AllByRecursion AskFits request.asks
    → ModesFitOr request.modes → ActionFits (modify_by s trail now o request)
modify_by_fits Never trail now o request fit key asks modes = tt
modify_by_fits AtOnce trail now o request fit key asks modes = if_both ActionFits (pass_limit (other_live_tokens trail now o) (length request.asks))
    (Refuse RequestDenied)
    (ModifyAtOnce o (consent_of trail o.grant) (tokens_of trail now o) request) tt (key, consent_fits o.grant trail fit, asks)
modify_by_fits ByAsking trail now o request fit key asks modes =
    ask_user_fits (ModifyAsking o (tokens_of trail now o) request) request.modes modes (λ m modes_fit. (asks, modes_fit))

collect_by_fits : (verdict : Verdict) (trail : List Note) (now : ℕ) (o : OpeningNote) (d : DecisionNote) (terms : TermsNote) → OpeningFits o → DecidedFits d
    → TermsFit terms
    → ActionFits (collect_by verdict trail now o d terms)
collect_by_fits Deny trail now o d terms key decided asks = tt
collect_by_fits Unknown trail now o d terms key decided asks = tt
collect_by_fits Grant trail now o d terms key decided asks = if_both ActionFits (pass_limit (live_tokens trail now) (length (decided_asks d.rights terms)))
    (Refuse RequestDenied)
    (CollectDecision o terms d (decided_asks d.rights terms)) tt (key, decided, decided_fit d.rights terms.asks asks)

collect_or_renew_fits : (trail : List Note) (now : ℕ) (o : OpeningNote) (decision : Option DecisionNote) → NotesFit trail → OpeningFits o
    → IfSome decision DecidedFits
    → ActionFits (collect_or_renew trail now o decision)
collect_or_renew_fits trail now o None fit key decided = tt
collect_or_renew_fits trail now o (Some d) fit key decided =
    found_fits TermsFit InvalidRequest (collect_by d.verdict trail now o d) (terms_of trail o.grant) (terms_fit o.grant trail fit)
    (λ terms asks. collect_by_fits d.verdict trail now o d terms key decided asks)

continue_round_fits : (trail : List Note) (now : ℕ) (o : OpeningNote) (reference : Option Text) (decision : Option DecisionNote) (round : RoundNote)
    → NotesFit trail → OpeningFits o → IfSome decision DecidedFits → ActionFits (continue_round trail now o reference decision round)
continue_round_fits trail now o reference decision round fit key decided =
    let last = if is_wrong reference decision then wrong_reference trail o else collect_or_renew trail now o decision in
    let next = if not (is_some reference) && is_some round.modes.finish then Refuse InvalidRequest else last in
    if_both ActionFits (not (is_some decision) && nat_le round.until now) (RefuseAndFinalize o InvalidInteraction) next tt
    (if_both ActionFits (not (is_some reference) && is_some round.modes.finish) (Refuse InvalidRequest) last tt
    (if_both ActionFits (is_wrong reference decision) (wrong_reference trail o) (collect_or_renew trail now o decision)
    (if_both ActionFits (nat_le wrong_limit (wrongs_of trail o.grant + 1)) (LastWrongReference o) (WrongReference o) tt tt)
    (collect_or_renew_fits trail now o decision fit key decided)))

continue_at_fits : (state : GrantState) (trail : List Note) (now : ℕ) (o : OpeningNote) (reference : Option Text) → NotesFit trail → OpeningFits o
    → ActionFits (continue_at state trail now o reference)
continue_at_fits IsFinalized trail now o reference fit key = tt
continue_at_fits IsApproved trail now o reference fit key =
    if_both ActionFits (is_some reference) (RefuseAndFinalize o TooManyAttempts) (if is_early trail now o then Refuse TooFast else RenewDoor o) tt
    (if_both ActionFits (is_early trail now o) (Refuse TooFast) (RenewDoor o) tt tt)
continue_at_fits (IsPending round) trail now o reference fit key =
    if_both ActionFits (not (is_some reference) && is_early trail now o) (Refuse TooFast)
    (continue_round trail now o reference (decision_of trail o.grant) round) tt
    (continue_round_fits trail now o reference (decision_of trail o.grant) round fit key (decision_of_fits trail o.grant fit))

rotate_key_fits : (rules : Setup) (new_key : Option Text) (t : TokenNote) (o : OpeningNote) → TokenNoteFits t → IsUtf8Or new_key
    → ActionFits (rotate_key rules new_key t o)
rotate_key_fits rules None t o token key = (token, token.2)
rotate_key_fits rules (Some new_key) t o token key =
    if_both ActionFits (can_bind rules t.bearer new_key) (RotateToken o t new_key) (Refuse InvalidRotation) (token, key) tt

on_grant_fits : (code : ErrorCode) (trail : List Note) (key : Text) (t : TokenNote) (act : OpeningNote → Action) → NotesFit trail
    → ((o : OpeningNote) → OpeningFits o → ActionFits (act o))
    → ActionFits (on_grant code trail key t act)
on_grant_fits code trail key t act fit each = found_fits OpeningFits code (with_owner act t.key key) (first_of (opening_in t.grant) trail)
    (opening_fits t.grant trail fit)
    (λ o h. with_owner_fits act t.key key o (each o h))

show_token_fits : (names : List Text) (binding : Option Binding) (wanted : Option (List Right)) (t : Option TokenNote) → IfSome t TokenNoteFits
    → ActionFits (show_token names binding wanted t)
show_token_fits names binding wanted None fit = tt
show_token_fits names binding wanted (Some t) fit =
    if_both ActionFits (suits names binding wanted t.rights t.bearer) (ShowToken (served_part names t.rights) t) ShowInactive
    (all-filter Fits (serves names) t.rights fit.1, fit) tt

rights_or_fits : (asked : List Right) (rights : Option (List Right)) → RightsFit asked → RightsFitOr rights → RightsFit (rights_or asked rights)
rights_or_fits asked None fit given = fit
rights_or_fits asked (Some rights) fit given = given

decide_on_fits : (request : DecideRequest) (round : RoundNote) (asked : List Right) → DecisionFits request → RoundFits round → RightsFit asked
    → ActionFits (decide_on request round asked)
decide_on_fits request round asked decision round_fits fit = if_both ActionFits (may_decide request.verdict asked (rights_or asked request.rights))
    (TakeDecision round (rights_or asked request.rights) request) (Refuse InvalidRequest)
    (round_fits, rights_or_fits asked request.rights fit decision.1, decision) tt

-- After notes that fit, a call that fits leads to an action that fits.
action_fits : (rules : Setup) (supply : Supply) (trail : List Note) (call : Call) → NotesFit trail → TextsFit call
    → ActionFits (action_of rules supply trail call)
action_fits rules supply trail (Begin key request not_after) fit fits =
    let o = opening trail supply.now key request not_after in
    if_both ActionFits (is_past supply.now not_after || nat_le live_limit (live_grants trail supply.now)) (Refuse RequestDenied)
    (begin_by (settle rules key [] request) trail supply.now o request) tt
    (begin_by_fits (settle rules key [] request) trail supply.now o request (fits.0, fits.1.2) fits.1.0 fits.2)
action_fits rules supply trail (Introspect server value binding wanted) fit fits =
    let names = server_names (key_of rules server) in
    if_both ActionFits (serves_all names wanted) (show_token names binding wanted (live_token trail supply.now value)) (Refuse InvalidAccess)
    (show_token_fits names binding wanted (live_token trail supply.now value) (token_fits _ trail fit)) tt
action_fits rules supply trail Lapse fit fits = tt
action_fits rules supply trail (Continue key value reference) fit fits =
    with_grant_fits trail supply.now key value _ fit (λ o h. continue_at_fits (grant_state trail o.grant supply.now) trail supply.now o reference fit h)
action_fits rules supply trail (Modify key value request) fit fits =
    with_grant_fits trail supply.now key value _ fit
    (λ o h. modify_by_fits (settle rules o.key (consent_of trail o.grant) request) trail supply.now o request fit h fits.1.0 fits.2)
action_fits rules supply trail (Cancel key value) fit fits = with_grant_fits trail supply.now key value _ fit (λ o h. tt)
action_fits rules supply trail (Rotate key value new_key) fit fits =
    found_fits TokenNoteFits InvalidRotation _ (managed_token trail supply.now value) (token_fits _ trail fit)
    (λ t h. if_both ActionFits (is_live trail supply.now t) (on_grant InvalidRotation trail key t (rotate_key rules new_key t)) (Refuse InvalidRotation)
    (on_grant_fits InvalidRotation trail key t (rotate_key rules new_key t) fit (λ o k. rotate_key_fits rules new_key t o h fits.1)) tt)
action_fits rules supply trail (Revoke key value) fit fits =
    found_fits TokenNoteFits InvalidRequest _ (managed_token trail supply.now value) (token_fits _ trail fit)
    (λ t h. on_grant_fits InvalidRequest trail key t _ fit (λ o k. tt))
action_fits rules supply trail (Look front handle) fit fits =
    found_fits RoundFits UnknownInteraction _ (round_by_handle trail supply.now handle) (by_handle_fits trail supply.now handle fit)
    (λ r round. found_fits TermsFit UnknownInteraction _ (terms_of trail r.grant) (terms_fit r.grant trail fit)
    (λ t terms. found_fits OpeningFits UnknownInteraction _ (first_of (opening_in r.grant) trail) (opening_fits r.grant trail fit) (λ o key. (terms, key))))
action_fits rules supply trail (FindCode front code) fit fits =
    found_fits RoundFits UnknownInteraction ShowHandle (round_by_code trail supply.now code) (by_code_fits trail supply.now code fit) (λ r h. h)
action_fits rules supply trail (Decide front request) fit fits =
    found_fits RoundFits UnknownInteraction _ (round_by_handle trail supply.now request.handle) (by_handle_fits trail supply.now request.handle fit)
    (λ r round. found_fits TermsFit UnknownInteraction _ (terms_of trail r.grant) (terms_fit r.grant trail fit)
    (λ t terms. decide_on_fits request r (asked_rights t.asks) fits.1 round (asked_fit t.asks terms)))

-- ---- histories

-- The reply and the notes of a call that fits, after notes that fit, fit.
answer_fits : (rules : Setup) (notes : List Note) (at : ℕ) (draw : List ℕ) (call : Call) → NotesFit notes → TextsFit call
    → ReplyFits (gnap_answer rules notes at draw call).reply × NotesFit (gnap_answer rules notes at draw call).notes
answer_fits rules notes at draw call fit fits =
    let supply = supply_of (reverse notes) at draw in
    outcome_fits supply (action_of rules supply (reverse notes) call) (action_fits rules supply (reverse notes) call (all-reverse NoteFits notes fit) fits)

-- From entries whose notes fit, the rest of a legal history leads to notes that fit.
notes_fit_on : (rules : Setup) (before rest : List GrantEntry) → Legal grants rules (before ++ rest) → NotesFit (notes_of before)
    → NotesFit (notes_of (before ++ rest))
notes_fit_on rules before [] legal fit = subst (λ (h : List GrantEntry). NotesFit (notes_of h)) (sym (append-nil before)) fit
notes_fit_on rules before (e ∷ rest) legal fit =
    let follows = legal before e rest refl in
    let here : NotesFit e.notes = subst NotesFit (sym follows.notes)
    (answer_fits rules (notes_of before) (now before e.moment) e.draw e.call fit follows.fits.1).1 in
    let joined : notes_of (before ++ e ∷ []) ≡ notes_of before ++ (e.notes ++ []) = notes-append before (e ∷ []) in
    let more : NotesFit (notes_of (before ++ e ∷ [])) = subst NotesFit (sym joined)
    (all-append NoteFits (notes_of before) (e.notes ++ []) fit (all-append NoteFits e.notes [] here tt)) in
    let same : (before ++ e ∷ []) ++ rest ≡ before ++ e ∷ rest = append_assoc before (e ∷ []) rest in
    subst (λ (h : List GrantEntry). NotesFit (notes_of h)) same
    (notes_fit_on rules (before ++ e ∷ []) rest (subst (λ (h : List GrantEntry). Legal grants rules h) (sym same) legal) more)

-- The notes of a legal history fit, but for those of nonces.
notes_fit : (rules : Setup) (h : List GnapEntry) → Legal gnap rules h → NotesFit (plain_notes (notes_of h))
notes_fit rules h legal =
    let back = reverse-reverse h in
    let plain = plain_is GnapFits SignedFits rules (reverse h) (λ signed fits. fits.call) (tt, tt)
    (subst (λ (k : List GnapEntry). Legal gnap rules k) (sym back) legal) in
    subst (λ (k : List GnapEntry). NotesFit (plain_notes (notes_of k))) back
    (subst NotesFit plain.notes (notes_fit_on rules [] (reverse (plain_past (reverse h))) plain.legal tt))

-- A refusal of the mark fits, and every other reply does where the notes do.
reply_fits : (refused : Bool) (rules : Setup) (h : List GnapEntry) (e : GnapEntry) → NotesFit (plain_notes (notes_of h)) → TextsFit e.call.call
    → IsAnswered refused rules h e → ReplyFits e.reply
reply_fits true rules h e notes fits is = subst ReplyFits (sym is.reply) tt
reply_fits false rules h e notes fits is =
    subst ReplyFits (sym is.reply) (answer_fits rules (plain_notes (notes_of h)) (now h e.moment) e.draw e.call.call notes fits).0

-- Each reply in a legal history fits.
pub replies_fit : (rules : Setup) (h before : List GnapEntry) (e : GnapEntry) (after : List GnapEntry) → Legal gnap rules h → h ≡ before ++ e ∷ after
    → ReplyFits e.reply
replies_fit rules h before e after legal is =
    let follows = legal before e after is in
    let front = legal-front gnap rules before (e ∷ after) (subst (λ (k : List GnapEntry). Legal gnap rules k) is legal) in
    reply_fits (is_refused_after before e) rules before e (notes_fit rules before front) follows.fits.call.1
    (is_answered SignedFits rules before e (is_refused_after before e) refl follows)

-- A desk's reply to a call that fits, fits.
pub entered_fits : (rules : Setup) (number : ℕ) (h : List GnapEntry) (moment : ℕ) (draw : List ℕ) (signed : Signed) (reply : Reply)
    (seen : List GnapEntry → Type 0)
    → ((k : List GnapEntry) → seen k → Legal gnap rules k) → Enters gnap rules number h moment draw signed reply seen → ReplyFits reply
entered_fits rules number h moment draw signed reply seen legal enters =
    let front = h ++ enters.others in
    let e = entry_of gnap rules front number moment draw signed in
    subst ReplyFits (sym enters.reply_is) (replies_fit rules (front ++ e ∷ []) front e [] (legal (front ++ e ∷ []) enters.seen_now) refl)
