-- What is to be done on a call, from the rows alone. It is what the notes say (`gnap_model.specs.Answer.action_of`).
use Rattle.std.specs.Prelude.{ℕ, ◌+◌, ◌==◌, nat_le, nat_lt, Bool, not, ◌&&◌, ◌||◌, List, [], length, map, filter, is_some, option_map, if◌then◌else◌}
use Rattle.std.specs.List.{filter_map}
use Rattle.std.specs.declared.option.Option.{Option}
use Rattle.std.specs.declared.option.Option.TheVariants.{None, Some}
use Rattle.gnap_model.specs.Common.{Text, same_text}
use Rattle.gnap_model.specs.Limits.{live_limit, wrong_limit}
use Rattle.gnap_model.specs.Asked.{asked_rights}
use Rattle.gnap_model.specs.declared.objects.GrantRequest.{GrantRequest}
use Rattle.gnap_model.specs.declared.objects.Setup.{Setup}
use Rattle.gnap_model.specs.declared.objects.Verdict.{Verdict}
use Rattle.gnap_model.specs.declared.objects.Verdict.TheVariants.{Grant, Deny, Unknown}
use Rattle.gnap_model.specs.declared.objects.ErrorCode.{ErrorCode}
use Rattle.gnap_model.specs.declared.objects.ErrorCode.TheVariants.{RequestDenied, InvalidAccess, InvalidClient, InvalidRequest, InvalidInteraction, InvalidContinuation, UserDenied, UnknownUser, TooFast, TooManyAttempts, InvalidRotation, UnknownInteraction}
use Rattle.gnap_model.specs.declared.calls.Call.{Call}
use Rattle.gnap_model.specs.declared.calls.Call.TheVariants.{Begin, Introspect, Lapse, Look, FindCode, Decide, Continue, Modify, Cancel, Rotate, Revoke}
use Rattle.gnap_model.specs.declared.notes.OpeningNote.{OpeningNote}
use Rattle.gnap_model.specs.declared.notes.DecisionNote.{DecisionNote}
use Rattle.gnap_model.specs.Keys.{key_of, server_names}
use Rattle.gnap_model.specs.Judging.{Settled, settle, serves_all}
use Rattle.gnap_model.specs.Judging.Settled.{AtOnce, ByAsking, Never}
use Rattle.gnap_model.specs.Begin.{end_of, is_past, ask_user, show_token}
use Rattle.gnap_model.specs.Continue.{is_wrong, decided_asks}
use Rattle.gnap_model.specs.Manage.{rotate_key}
use Rattle.gnap_model.specs.Front.{decide_on}
use Rattle.gnap_model.specs.Actions.{Action, Supply, on_found, with_owner}
use Rattle.gnap_model.specs.Actions.Action.{Refuse, LapseAction, OpenAtOnce, OpenAsking, ShowRound, ShowHandle, RenewDoor, CollectDecision, WrongReference, LastWrongReference, RefuseAndFinalize, ModifyAtOnce, ModifyAsking, CancelGrant, RevokeToken}
use Rattle.gnap_model.specs.Standing.{code_in}
use Rattle.gnap_tables.specs.Rows.{Round, GrantRow, TokenRow}
use Rattle.gnap_tables.specs.Tables.{Tables}
use Rattle.gnap_tables.specs.RowSearches.{opening_of, terms_of_row, decision_of_row, token_of, row_by_number, row_by_door, open_rounds, row_by_manage, is_live_row, live_row, live_rows, Interaction, interaction_by_handle, interaction_by_code}

-- these live rows and so many more tokens are too many
abbrev pub pass_live : List TokenRow → ℕ → Bool
pass_live live more = nat_lt live_limit (length live + more)

-- ---- a grant request

-- the grant that a request opens, under the next number
abbrev pub opening_for : ℕ → ℕ → Text → GrantRequest → Option ℕ → OpeningNote
opening_for next now key request not_after = record {
  grant = next;
  key = key;
  by_object = request.by_object;
  user = request.user;
  end = end_of now not_after;
}

abbrev pub begin_rows : Settled → Tables → ℕ → OpeningNote → GrantRequest → Action
begin_rows Never tables now opened request = Refuse RequestDenied
begin_rows AtOnce tables now opened request =
    if pass_live (live_rows now tables.grants tables.tokens) (length request.asks) then Refuse RequestDenied else OpenAtOnce opened request
begin_rows ByAsking tables now opened request = ask_user (OpenAsking opened request) request.modes

-- ---- a continuation

abbrev pub with_row : (GrantRow → Action) → Text → Option GrantRow → Action
with_row act key None = Refuse InvalidContinuation
with_row act key (Some row) = if same_text row.key key then act row else Refuse InvalidClient

abbrev pub collect_rows : Verdict → Tables → ℕ → GrantRow → DecisionNote → Action
collect_rows Deny tables now row decision = RefuseAndFinalize (opening_of row) UserDenied
collect_rows Unknown tables now row decision = RefuseAndFinalize (opening_of row) UnknownUser
collect_rows Grant tables now row decision =
    if pass_live (live_rows now tables.grants tables.tokens) (length (decided_asks decision.rights (terms_of_row row))) then Refuse RequestDenied
    else CollectDecision (opening_of row) (terms_of_row row) decision (decided_asks decision.rights (terms_of_row row))

abbrev pub collect_or_renew_rows : Tables → ℕ → GrantRow → Option DecisionNote → Action
collect_or_renew_rows tables now row None = RenewDoor (opening_of row)
collect_or_renew_rows tables now row (Some decision) = collect_rows decision.verdict tables now row decision

abbrev pub continue_round_rows : Tables → ℕ → GrantRow → Option Text → Option DecisionNote → Round → Action
continue_round_rows tables now row reference decision round =
    if not (is_some decision) && nat_le round.until now then RefuseAndFinalize (opening_of row) InvalidInteraction
    else if not (is_some reference) && is_some round.modes.finish then Refuse InvalidRequest
    else if is_wrong reference decision
    then (if nat_le wrong_limit (round.wrongs + 1) then LastWrongReference (opening_of row) else WrongReference (opening_of row))
    else collect_or_renew_rows tables now row decision

abbrev pub continue_by : Option Round → Tables → ℕ → GrantRow → Option Text → Action
continue_by None tables now row reference =
    if is_some reference then RefuseAndFinalize (opening_of row) TooManyAttempts
    else if nat_lt now row.earliest then Refuse TooFast
    else RenewDoor (opening_of row)
continue_by (Some round) tables now row reference =
    if not (is_some reference) && nat_lt now row.earliest then Refuse TooFast
    else continue_round_rows tables now row reference (option_map (decision_of_row row.number) round.decision) round

abbrev pub continue_rows : Tables → ℕ → Option Text → GrantRow → Action
continue_rows tables now reference row = continue_by row.round tables now row reference

-- ---- a modification

abbrev pub rows_of_grant : ℕ → List TokenRow → List TokenRow
rows_of_grant number rows = filter (λ (row : TokenRow). row.grant == number) rows

abbrev pub rows_of_others : ℕ → List TokenRow → List TokenRow
rows_of_others number rows = filter (λ (row : TokenRow). not (row.grant == number)) rows

abbrev pub modify_rows : Settled → Tables → ℕ → GrantRow → GrantRequest → Action
modify_rows Never tables now row request = Refuse RequestDenied
modify_rows AtOnce tables now row request =
    if pass_live (rows_of_others row.number (live_rows now tables.grants tables.tokens)) (length request.asks) then Refuse RequestDenied
    else ModifyAtOnce (opening_of row) row.consent (map token_of (rows_of_grant row.number tables.tokens)) request
modify_rows ByAsking tables now row request =
    ask_user (ModifyAsking (opening_of row) (map token_of (rows_of_grant row.number tables.tokens)) request) request.modes

-- ---- management

-- an action on a token's grant, where the key is the token's
abbrev pub on_row : ErrorCode → List GrantRow → Text → TokenRow → (OpeningNote → Action) → Action
on_row code grants key token act = on_found code (λ (row : GrantRow). with_owner act token.key key (opening_of row)) (row_by_number token.grant grants)

-- ---- all calls

-- next is the number of the next grant
abbrev pub row_action : Setup → ℕ → Tables → ℕ → Call → Action
row_action rules next tables now (Begin key request not_after) =
    if is_past now not_after || nat_le live_limit (length tables.grants) then Refuse RequestDenied
    else begin_rows (settle rules key [] request) tables now (opening_for next now key request not_after) request
row_action rules next tables now (Introspect server value binding wanted) =
    let names = server_names (key_of rules server) in
    if serves_all names wanted then show_token names binding wanted (option_map token_of (live_row now tables.grants value tables.tokens)) else Refuse
    InvalidAccess
row_action rules next tables now Lapse = LapseAction
row_action rules next tables now (Look front handle) =
    on_found UnknownInteraction (λ (i : Interaction). ShowRound i.round (terms_of_row i.row) (opening_of i.row))
    (interaction_by_handle now handle tables.grants)
row_action rules next tables now (FindCode front code) =
    on_found UnknownInteraction (λ (i : Interaction). ShowHandle i.round) (interaction_by_code now code tables.grants)
row_action rules next tables now (Decide front request) =
    on_found UnknownInteraction (λ (i : Interaction). decide_on request i.round (asked_rights i.row.asks))
    (interaction_by_handle now request.handle tables.grants)
row_action rules next tables now (Continue key value reference) = with_row (continue_rows tables now reference) key (row_by_door value tables.grants)
row_action rules next tables now (Modify key value request) =
    with_row (λ (row : GrantRow). modify_rows (settle rules row.key row.consent request) tables now row request) key (row_by_door value tables.grants)
row_action rules next tables now (Cancel key value) = with_row (λ (row : GrantRow). CancelGrant (opening_of row)) key (row_by_door value tables.grants)
row_action rules next tables now (Rotate key value new_key) =
    on_found InvalidRotation (λ (token : TokenRow). if is_live_row now tables.grants token
    then on_row InvalidRotation tables.grants key token (rotate_key rules new_key (token_of token)) else Refuse InvalidRotation)
    (row_by_manage value tables.tokens)
row_action rules next tables now (Revoke key value) =
    on_found InvalidRequest (λ (token : TokenRow). on_row InvalidRequest tables.grants key token
    (λ (opening : OpeningNote). RevokeToken (token_of token) token.retired))
    (row_by_manage value tables.tokens)

-- what the entry of a call draws on, where first is the next serial
abbrev pub row_supply : ℕ → Tables → ℕ → List ℕ → Supply
row_supply first tables now draw = record { now = now; first = first; words = draw; taken = filter_map code_in (open_rounds now tables.grants) }
