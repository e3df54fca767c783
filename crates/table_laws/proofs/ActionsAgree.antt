-- What the rows say is to be done on a call is what the notes say.
use Rattle.std.proofs.Common.{ℕ, arith, ◌≡◌, ◌+◌, Bool, true, false, List, [], map, length, refl, sym, ◌∙◌, ap, subst, Option, Some, None}
use Rattle.std.specs.Prelude.{◌&&◌, ◌||◌, not, ◌==◌, if◌then◌else◌, nat_lt, nat_le, is_some, option_map}
use Rattle.std.specs.Option.{option_and_then, unwrap_or}
use Rattle.std.specs.List.{list_any}
use Rattle.std.proofs.lemmas.Bool.{eqb-true, and_parts, not-true}
use Rattle.std.proofs.lemmas.Bool.Decides.{nat_tests}
use Rattle.std.proofs.lemmas.List.{length-map}
use Rattle.gnap_model.specs.Common.{Text, same_text, first_of, some_if, is_text}
use Rattle.gnap_model.specs.Limits.{live_limit, wrong_limit}
use Rattle.gnap_model.specs.Asked.{asked_rights}
use Rattle.gnap_model.specs.declared.objects.DecideRequest.{DecideRequest}
use Rattle.gnap_model.specs.declared.objects.GrantRequest.{GrantRequest}
use Rattle.gnap_model.specs.declared.objects.Setup.{Setup}
use Rattle.gnap_model.specs.declared.objects.Verdict.{Verdict}
use Rattle.gnap_model.specs.declared.objects.Verdict.TheVariants.{Grant, Deny, Unknown}
use Rattle.gnap_model.specs.declared.objects.ErrorCode.{ErrorCode}
use Rattle.gnap_model.specs.declared.objects.ErrorCode.TheVariants.{RequestDenied, InvalidAccess, InvalidClient, InvalidRequest, InvalidInteraction, TooFast, TooManyAttempts, InvalidRotation, UnknownInteraction}
use Rattle.gnap_model.specs.declared.calls.Call.{Call}
use Rattle.gnap_model.specs.declared.calls.Call.TheVariants.{Begin, Introspect, Lapse, Look, FindCode, Decide, Continue, Modify, Cancel, Rotate, Revoke}
use Rattle.gnap_model.specs.declared.notes.OpeningNote.{OpeningNote}
use Rattle.gnap_model.specs.declared.notes.TermsNote.{TermsNote}
use Rattle.gnap_model.specs.declared.notes.RoundNote.{RoundNote}
use Rattle.gnap_model.specs.declared.notes.DecisionNote.{DecisionNote}
use Rattle.gnap_model.specs.declared.notes.TokenNote.{TokenNote}
use Rattle.gnap_model.specs.declared.notes.Note.{Note}
use Rattle.gnap_model.specs.declared.notes.Note.TheVariants.{Opened, Issued, DecidedAs}
use Rattle.gnap_model.specs.Standing.{GrantState, grant_state, is_finalized, opening_in, terms_of, consent_of, earliest_in, decision_in, decision_of, wrongs_of, round_trail, named_grant, token_in, next_grant, live_grants, live_token, live_tokens, managed_token, is_live, is_managed, is_replacement, is_retirement, round_by_handle, round_by_code}
use Rattle.gnap_model.specs.Standing.GrantState.{IsPending, IsApproved, IsFinalized}
use Rattle.gnap_model.specs.Keys.{key_of, server_names}
use Rattle.gnap_model.specs.Judging.{Settled, settle, serves_all}
use Rattle.gnap_model.specs.Judging.Settled.{AtOnce, ByAsking, Never}
use Rattle.gnap_model.specs.Begin.{pass_limit, is_past, ask_user, show_token, opening, begin_by}
use Rattle.gnap_model.specs.Continue.{with_grant, is_before, is_early, is_wrong, decided_asks, continue_at, continue_round, collect_or_renew, collect_by}
use Rattle.gnap_model.specs.Change.{modify_by, other_live_tokens}
use Rattle.gnap_model.specs.Manage.{rotate_key, on_grant}
use Rattle.gnap_model.specs.Front.{decide_on}
use Rattle.gnap_model.specs.Actions.{Action, Supply, on_found, with_owner}
use Rattle.gnap_model.specs.Actions.Action.{Refuse, OpenAtOnce, ShowRound, ShowHandle, RenewDoor, CollectDecision, WrongReference, LastWrongReference, RefuseAndFinalize, ModifyAtOnce, ModifyAsking, CancelGrant, RevokeToken}
use Rattle.gnap_model.specs.Answer.{action_of}
use Rattle.gnap_model.proofs.TrailNotes.{HasNote, first_noted, grant_named, terms_noted, token_found}
use Rattle.gnap_model.proofs.LookUps.{some_if_some}
use Rattle.gnap_tables.specs.declared.rows.GrantRow.{GrantRow}
use Rattle.gnap_tables.specs.declared.rows.TokenRow.{TokenRow}
use Rattle.gnap_tables.specs.Rows.{decision_row, round_row, round_in, grant_row, grant_rows, token_row, token_rows}
use Rattle.gnap_tables.specs.Tables.{tables_of}
use Rattle.gnap_tables.specs.RowSearches.{newest, opening_of, terms_of_row, decision_of_row, token_of, row_by_door, row_by_manage, is_live_row, live_rows, Interaction, interaction_where}
use Rattle.gnap_tables.specs.ActionsByRows.{pass_live, begin_rows, with_row, collect_rows, collect_or_renew_rows, continue_round_rows, continue_by, continue_rows, rows_of_grant, rows_of_others, modify_rows, on_row, row_action}
use Rattle.table_laws.proofs.SweptTables.{IsOpenedOnce, HaveGrants}
use Rattle.table_laws.proofs.Bridges.{HaveDoors, number_is, approved_is, door_is, grants_counted}
use Rattle.table_laws.proofs.TokenBridges.{manage_is, live_is, live_tokens_are, tokens_of_are, other_tokens_are}
use Rattle.table_laws.proofs.RoundBridges.{handle_is, code_is, found_row, IsFound}

-- What holds of the notes of a legal history, after each entry.
pub record IsWhole (trail : List Note) : Type 0 where
  pub once : IsOpenedOnce trail
  pub grants : HaveGrants trail
  pub doors : HaveDoors trail
  pub terms : (o : OpeningNote) → HasNote trail (Opened o) → (w : TermsNote) × (terms_of trail o.grant ≡ Some w)

-- ---- parts

limit_is : (rows : List TokenRow) (tokens : List TokenNote) (more : ℕ) → map token_of rows ≡ tokens → pass_live rows more ≡ pass_limit tokens more
limit_is rows tokens more e = ap (λ n. nat_lt live_limit (n + more)) (sym (length-map rows token_of) ∙ ap (length {A = TokenNote}) e)

early_is : (x : Option ℕ) (now : ℕ) → nat_lt now (unwrap_or x 0) ≡ is_before now x
early_is (Some e) now = refl
early_is None now = grind (arith, nat_tests)

decision_is : (trail : List Note) (g : ℕ) → option_map (decision_of_row g) (option_map decision_row (decision_of trail g)) ≡ decision_of trail g
decision_is trail g = at (decision_of trail g) refl
  where
    of_grant : (d : DecisionNote) (n : Note) → decision_in g n ≡ Some d → d.grant ≡ g
    of_grant d (DecidedAs x) h = let both = some_if_some (x.grant == g) x d h in subst (λ (y : DecisionNote). y.grant ≡ g) both.1 (eqb-true x.grant g both.0)
    of_grant d _ h = cc h

    at : (x : Option DecisionNote) → decision_of trail g ≡ x → option_map (decision_of_row g) (option_map decision_row x) ≡ x
    at None e = refl
    at (Some d) e =
        let f = first_noted (decision_in g) (round_trail trail g) d e in
        ap (λ n. Some (record d { grant = n })) (sym (of_grant d f.0 f.2))

terms_is : (trail : List Note) (now : ℕ) (o : OpeningNote) (w : TermsNote) → terms_of trail o.grant ≡ Some w → terms_of_row (grant_row trail now o) ≡ w
terms_is trail now o w e = rw e (ap (λ n. record w { grant = n }) (sym (terms_noted trail o.grant w e).1))

-- a named grant goes on
pub named_goes : (trail : List Note) (now : ℕ) (v : Text) (o : OpeningNote) → named_grant trail now v ≡ Some o
    → is_finalized (grant_state trail o.grant now) ≡ false
named_goes trail now v o e = not-true (is_finalized (grant_state trail o.grant now)) (grant_named trail now v o e).goes_on

-- what is done with the grant that a value names
named_action : (trail : List Note) (now : ℕ) (value key : Text) (act : GrantRow → Action) (act' : OpeningNote → Action) → HaveDoors trail
    → ((o : OpeningNote) → named_grant trail now value ≡ Some o → act (grant_row trail now o) ≡ act' o)
    → with_row act key (row_by_door value (grant_rows trail now)) ≡ with_grant act' key (named_grant trail now value)
named_action trail now value key act act' doors h = ap (with_row act key) (door_is trail now value doors) ∙ at (named_grant trail now value) refl
  where
    at : (x : Option OpeningNote) → named_grant trail now value ≡ x → with_row act key (option_map (grant_row trail now) x) ≡ with_grant act' key x
    at None e = refl
    at (Some o) e = ap (λ (a : Action). if same_text o.key key then a else Refuse InvalidClient) (h o e)

-- ---- a grant request

begin_is : (s : Settled) (trail : List Note) (now : ℕ) (o : OpeningNote) (request : GrantRequest) → HaveGrants trail
    → begin_rows s (tables_of trail now) now o request ≡ begin_by s trail now o request
begin_is Never trail now o request whole = refl
begin_is AtOnce trail now o request whole = ap (λ b. if b then Refuse RequestDenied else OpenAtOnce o request)
    (limit_is (live_rows now (grant_rows trail now) (token_rows trail now)) (live_tokens trail now) (length request.asks) (live_tokens_are trail now whole))
begin_is ByAsking trail now o request whole = refl

-- ---- a continuation

collect_by_is : (v : Verdict) (trail : List Note) (now : ℕ) (o : OpeningNote) (d : DecisionNote) (w : TermsNote) → HaveGrants trail
    → terms_of trail o.grant ≡ Some w
    → collect_rows v (tables_of trail now) now (grant_row trail now o) d ≡ collect_by v trail now o d w
collect_by_is Deny trail now o d w whole e = refl
collect_by_is Unknown trail now o d w whole e = refl
collect_by_is Grant trail now o d w whole e =
    ap (λ (x : TermsNote). if pass_live (live_rows now (grant_rows trail now) (token_rows trail now)) (length (decided_asks d.rights x)) then Refuse
    RequestDenied else CollectDecision o x d (decided_asks d.rights x)) (terms_is trail now o w e)
    ∙ ap (λ b. if b then Refuse RequestDenied else CollectDecision o w d (decided_asks d.rights w))
    (limit_is (live_rows now (grant_rows trail now) (token_rows trail now)) (live_tokens trail now) (length (decided_asks d.rights w))
    (live_tokens_are trail now whole))

collect_is : (trail : List Note) (now : ℕ) (o : OpeningNote) (d : Option DecisionNote) → IsWhole trail → HasNote trail (Opened o)
    → collect_or_renew_rows (tables_of trail now) now (grant_row trail now o) d ≡ collect_or_renew trail now o d
collect_is trail now o None whole h = refl
collect_is trail now o (Some d) whole h =
    let w = whole.terms o h in
    collect_by_is d.verdict trail now o d w.0 whole.grants w.1 ∙ sym (ap (on_found InvalidRequest (collect_by d.verdict trail now o d)) w.1)

round_is : (trail : List Note) (now : ℕ) (o : OpeningNote) (reference : Option Text) (d : Option DecisionNote) (r : RoundNote) → IsWhole trail
    → HasNote trail (Opened o)
    → continue_round_rows (tables_of trail now) now (grant_row trail now o) reference d (round_row (wrongs_of trail o.grant) (decision_of trail o.grant) r)
    ≡ continue_round trail now o reference d r
round_is trail now o reference d r whole h =
    ap (λ (a : Action). if not (is_some d) && nat_le r.until now then RefuseAndFinalize o InvalidInteraction
    else if not (is_some reference) && is_some r.modes.finish then Refuse InvalidRequest
    else if is_wrong reference d then (if nat_le wrong_limit (wrongs_of trail o.grant + 1) then LastWrongReference o else WrongReference o)
    else a) (collect_is trail now o d whole h)

continue_is : (trail : List Note) (now : ℕ) (o : OpeningNote) (reference : Option Text) (s : GrantState) → IsWhole trail → HasNote trail (Opened o)
    → is_finalized s ≡ false
    → continue_by (round_in trail o.grant s) (tables_of trail now) now (grant_row trail now o) reference ≡ continue_at s trail now o reference
continue_is trail now o reference IsFinalized whole h going = cc going
continue_is trail now o reference IsApproved whole h going =
    ap (λ b. if is_some reference then RefuseAndFinalize o TooManyAttempts else if b then Refuse TooFast else RenewDoor o)
    (early_is (first_of (earliest_in o.grant) trail) now)
continue_is trail now o reference (IsPending r) whole h going =
    ap (λ b. if not (is_some reference) && b then Refuse TooFast
    else continue_round_rows (tables_of trail now) now (grant_row trail now o) reference
    (option_map (decision_of_row o.grant) (option_map decision_row (decision_of trail o.grant)))
    (round_row (wrongs_of trail o.grant) (decision_of trail o.grant) r))
    (early_is (first_of (earliest_in o.grant) trail) now)
    ∙ ap (λ (d : Option DecisionNote). if not (is_some reference) && is_early trail now o then Refuse TooFast
    else continue_round_rows (tables_of trail now) now (grant_row trail now o) reference d (round_row (wrongs_of trail o.grant) (decision_of trail o.grant) r))
    (decision_is trail o.grant)
    ∙ ap (λ (a : Action). if not (is_some reference) && is_early trail now o then Refuse TooFast else a)
    (round_is trail now o reference (decision_of trail o.grant) r whole h)

-- ---- a modification

modify_is : (s : Settled) (trail : List Note) (now : ℕ) (o : OpeningNote) (request : GrantRequest) → HaveGrants trail
    → modify_rows s (tables_of trail now) now (grant_row trail now o) request ≡ modify_by s trail now o request
modify_is Never trail now o request whole = refl
modify_is AtOnce trail now o request whole =
    ap (λ b. if b then Refuse RequestDenied else ModifyAtOnce o (consent_of trail o.grant) (map token_of (rows_of_grant o.grant (token_rows trail now)))
    request)
    (limit_is (rows_of_others o.grant (live_rows now (grant_rows trail now) (token_rows trail now))) (other_live_tokens trail now o) (length request.asks)
    (other_tokens_are trail now o whole))
    ∙ ap (λ (ts : List TokenNote). if pass_limit (other_live_tokens trail now o) (length request.asks) then Refuse RequestDenied else ModifyAtOnce o
    (consent_of trail o.grant) ts request) (tokens_of_are trail now o)
modify_is ByAsking trail now o request whole = ap (λ (ts : List TokenNote). ask_user (ModifyAsking o ts request) request.modes) (tokens_of_are trail now o)

-- ---- management

token_back : (trail : List Note) (x : Option TokenNote) → option_map token_of (option_map (token_row trail) x) ≡ x
token_back trail None = refl
token_back trail (Some t) = refl

-- a token that can be managed is of a grant that goes on
managed_goes : (trail : List Note) (now : ℕ) (value : Text) (t : TokenNote) → managed_token trail now value ≡ Some t
    → HasNote trail (Issued t) × (is_finalized (grant_state trail t.grant now) ≡ false)
managed_goes trail now value t e =
    let test : TokenNote → Bool = λ token. same_text token.manage value && is_managed trail now token in
    let noted = first_noted (token_in test) trail t e in
    let found = token_found test t noted.0 noted.2 in
    let managed = and_parts (same_text t.manage value) (is_managed trail now t) found.1 in
    let going = and_parts (not (list_any (is_replacement t.serial) trail)) (not (is_finalized (grant_state trail t.grant now))) managed.1 in
    (subst (HasNote trail) found.0 noted.1, not-true (is_finalized (grant_state trail t.grant now)) going.1)

on_row_is : (code : ErrorCode) (trail : List Note) (now : ℕ) (key : Text) (t : TokenNote) (act : OpeningNote → Action)
    → is_finalized (grant_state trail t.grant now) ≡ false
    → on_row code (grant_rows trail now) key (token_row trail t) act ≡ on_grant code trail key t act
on_row_is code trail now key t act going =
    ap (on_found code (λ (row : GrantRow). with_owner act t.key key (opening_of row))) (number_is trail now t.grant)
    ∙ at (is_finalized (grant_state trail t.grant now)) (first_of (opening_in t.grant) trail) going
  where
    at : (f : Bool) (x : Option OpeningNote) → f ≡ false
        → on_found code (λ (row : GrantRow). with_owner act t.key key (opening_of row))
        (option_and_then (λ (o : OpeningNote). some_if (not f) (grant_row trail now o)) x) ≡ on_found code (with_owner act t.key key) x
    at true x e = cc e
    at false None e = refl
    at false (Some o) e = refl

live_row_is : (trail : List Note) (now : ℕ) (t : TokenNote) → HaveGrants trail → HasNote trail (Issued t)
    → is_live_row now (grant_rows trail now) (token_row trail t) ≡ is_live trail now t
live_row_is trail now t whole h = ap (λ b. not (list_any (is_retirement t.serial) trail) && nat_lt now t.until && b) (approved_is trail now t.grant (whole t h))

managed_action : (trail : List Note) (now : ℕ) (value : Text) (code : ErrorCode) (act : TokenRow → Action) (act' : TokenNote → Action)
    → ((t : TokenNote) → HasNote trail (Issued t) → is_finalized (grant_state trail t.grant now) ≡ false → act (token_row trail t) ≡ act' t)
    → on_found code act (row_by_manage value (token_rows trail now)) ≡ on_found code act' (managed_token trail now value)
managed_action trail now value code act act' h = ap (on_found code act) (manage_is trail now value) ∙ at (managed_token trail now value) refl
  where
    at : (x : Option TokenNote) → managed_token trail now value ≡ x → on_found code act (option_map (token_row trail) x) ≡ on_found code act' x
    at None e = refl
    at (Some t) e = let m = managed_goes trail now value t e in h t m.0 m.1

-- ---- interactions

interaction_action : (test : RoundNote → Bool) (trail : List Note) (now : ℕ) (act : Interaction → Action) (act' : RoundNote → Action) (found : Option RoundNote)
    → option_map (λ (i : Interaction). i.round) (newest (interaction_where test now) (grant_rows trail now)) ≡ found
    → ((i : Interaction) → IsFound trail now i → act i ≡ act' i.round)
    → on_found UnknownInteraction act (newest (interaction_where test now) (grant_rows trail now)) ≡ on_found UnknownInteraction act' found
interaction_action test trail now act act' found e h = at (newest (interaction_where test now) (grant_rows trail now)) refl
    ∙ ap (on_found UnknownInteraction act') e
  where
    at : (x : Option Interaction) → newest (interaction_where test now) (grant_rows trail now) ≡ x
        → on_found UnknownInteraction act x ≡ on_found UnknownInteraction act' (option_map (λ (i : Interaction). i.round) x)
    at None e = refl
    at (Some i) e = h i (found_row test trail now i e)

look_is : (trail : List Note) (now : ℕ) (i : Interaction) → IsWhole trail → IsFound trail now i
    → ShowRound i.round (terms_of_row i.row) (opening_of i.row)
    ≡ on_found UnknownInteraction (λ terms. on_found UnknownInteraction (λ opening. ShowRound i.round terms opening)
    (first_of (opening_in i.round.grant) trail)) (terms_of trail i.round.grant)
look_is trail now i whole f =
    let w = whole.terms f.opening f.opened in
    let terms : terms_of trail i.round.grant ≡ Some w.0 = ap (terms_of trail) f.grant_is ∙ w.1 in
    let opened : first_of (opening_in i.round.grant) trail ≡ Some f.opening = ap (λ n. first_of (opening_in n) trail) f.grant_is
    ∙ whole.once f.opening f.opened in
    let shown : terms_of_row i.row ≡ w.0 = ap terms_of_row f.row_is ∙ terms_is trail now f.opening w.0 w.1 in
    ap (λ (t : TermsNote). ShowRound i.round t (opening_of i.row)) shown ∙ ap (λ (row : GrantRow). ShowRound i.round w.0 (opening_of row)) f.row_is
    ∙ sym (ap (on_found UnknownInteraction
    (λ terms. on_found UnknownInteraction (λ opening. ShowRound i.round terms opening) (first_of (opening_in i.round.grant) trail))) terms
    ∙ ap (on_found UnknownInteraction (λ opening. ShowRound i.round w.0 opening)) opened)

decide_is : (trail : List Note) (now : ℕ) (request : DecideRequest) (i : Interaction) → IsWhole trail → IsFound trail now i
    → decide_on request i.round (asked_rights i.row.asks)
    ≡ on_found UnknownInteraction (λ terms. decide_on request i.round (asked_rights terms.asks)) (terms_of trail i.round.grant)
decide_is trail now request i whole f =
    let w = whole.terms f.opening f.opened in
    let terms : terms_of trail i.round.grant ≡ Some w.0 = ap (terms_of trail) f.grant_is ∙ w.1 in
    let shown : terms_of_row i.row ≡ w.0 = ap terms_of_row f.row_is ∙ terms_is trail now f.opening w.0 w.1 in
    ap (λ (t : TermsNote). decide_on request i.round (asked_rights t.asks)) shown
    ∙ sym (ap (on_found UnknownInteraction (λ terms. decide_on request i.round (asked_rights terms.asks))) terms)

-- ---- all calls

-- The rows say what the notes say.
pub action_is : (rules : Setup) (trail : List Note) (supply : Supply) (call : Call) → IsWhole trail
    → row_action rules (next_grant trail) (tables_of trail supply.now) supply.now call ≡ action_of rules supply trail call
action_is rules trail supply (Begin key request not_after) whole =
    let now = supply.now in
    ap (λ n. if is_past now not_after
    || nat_le live_limit n then Refuse RequestDenied else begin_rows (settle rules key [] request) (tables_of trail now) now
    (opening trail now key request not_after) request) (grants_counted trail now)
    ∙ ap (λ (a : Action). if is_past now not_after || nat_le live_limit (live_grants trail now) then Refuse RequestDenied else a)
    (begin_is (settle rules key [] request) trail now (opening trail now key request not_after) request whole.grants)
action_is rules trail supply (Introspect server value binding wanted) whole =
    ap (λ (x : Option TokenNote). if serves_all (server_names (key_of rules server)) wanted then show_token (server_names (key_of rules server)) binding wanted
    x else Refuse InvalidAccess)
    (ap (option_map token_of) (live_is trail supply.now value whole.grants) ∙ token_back trail (live_token trail supply.now value))
action_is rules trail supply Lapse whole = refl
action_is rules trail supply (Look front handle) whole =
    interaction_action (λ round. same_text round.handle handle) trail supply.now
    (λ (i : Interaction). ShowRound i.round (terms_of_row i.row) (opening_of i.row)) _ (round_by_handle trail supply.now handle)
    (handle_is trail supply.now handle) (λ i f. look_is trail supply.now i whole f)
action_is rules trail supply (FindCode front code) whole =
    interaction_action (λ round. is_text code round.code) trail supply.now (λ (i : Interaction). ShowHandle i.round) ShowHandle
    (round_by_code trail supply.now code)
    (code_is trail supply.now code) (λ i f. refl)
action_is rules trail supply (Decide front request) whole =
    interaction_action (λ round. same_text round.handle request.handle) trail supply.now
    (λ (i : Interaction). decide_on request i.round (asked_rights i.row.asks)) _ (round_by_handle trail supply.now request.handle)
    (handle_is trail supply.now request.handle) (λ i f. decide_is trail supply.now request i whole f)
action_is rules trail supply (Continue key value reference) whole =
    named_action trail supply.now value key (continue_rows (tables_of trail supply.now) supply.now reference)
    (λ o. continue_at (grant_state trail o.grant supply.now) trail supply.now o reference) whole.doors
    (λ o e. continue_is trail supply.now o reference (grant_state trail o.grant supply.now) whole (grant_named trail supply.now value o e).opened
    (named_goes trail supply.now value o e))
action_is rules trail supply (Modify key value request) whole =
    named_action trail supply.now value key
    (λ (row : GrantRow). modify_rows (settle rules row.key row.consent request) (tables_of trail supply.now) supply.now row request)
    (λ o. modify_by (settle rules o.key (consent_of trail o.grant) request) trail supply.now o request) whole.doors
    (λ o e. modify_is (settle rules o.key (consent_of trail o.grant) request) trail supply.now o request whole.grants)
action_is rules trail supply (Cancel key value) whole =
    named_action trail supply.now value key (λ (row : GrantRow). CancelGrant (opening_of row)) CancelGrant whole.doors (λ o e. refl)
action_is rules trail supply (Rotate key value new_key) whole =
    managed_action trail supply.now value InvalidRotation
    (λ (token : TokenRow). if is_live_row supply.now (grant_rows trail supply.now) token then on_row InvalidRotation (grant_rows trail supply.now) key token
    (rotate_key rules new_key (token_of token)) else Refuse InvalidRotation)
    (λ (t : TokenNote). if is_live trail supply.now t then on_grant InvalidRotation trail key t (rotate_key rules new_key t) else Refuse InvalidRotation)
    (λ t h going. ap (λ b. if b then on_row InvalidRotation (grant_rows trail supply.now) key (token_row trail t) (rotate_key rules new_key t) else Refuse
    InvalidRotation) (live_row_is trail supply.now t whole.grants h)
    ∙ ap (λ (a : Action). if is_live trail supply.now t then a else Refuse InvalidRotation)
    (on_row_is InvalidRotation trail supply.now key t (rotate_key rules new_key t) going))
action_is rules trail supply (Revoke key value) whole =
    managed_action trail supply.now value InvalidRequest
    (λ (token : TokenRow). on_row InvalidRequest (grant_rows trail supply.now) key token
    (λ (opening : OpeningNote). RevokeToken (token_of token) token.retired))
    (λ (t : TokenNote). on_grant InvalidRequest trail key t (λ (opening : OpeningNote). RevokeToken t (list_any (is_retirement t.serial) trail)))
    (λ t h going. on_row_is InvalidRequest trail supply.now key t (λ (opening : OpeningNote). RevokeToken t (list_any (is_retirement t.serial) trail)) going)
