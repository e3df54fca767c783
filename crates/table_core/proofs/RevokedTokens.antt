-- A refusal that was chosen for a revocation is the action's outcome.
use Rattle.std.proofs.Common.{◌≡◌, Bool, true, false, List, refl, subst, Option, Some, None}
use Rattle.std.specs.Prelude.{if◌then◌else◌}
use Rattle.gnap_model.specs.Common.{Text, same_text}
use Rattle.gnap_model.specs.declared.objects.ErrorCode.{ErrorCode}
use Rattle.gnap_model.specs.declared.objects.ErrorCode.TheVariants.{InvalidClient, InvalidRequest}
use Rattle.gnap_model.specs.declared.calls.Reply.TheVariants.{Error}
use Rattle.gnap_model.specs.declared.notes.OpeningNote.{OpeningNote}
use Rattle.gnap_model.specs.Actions.{Action, Supply, on_found}
use Rattle.gnap_model.specs.Actions.Action.{Refuse, RevokeToken}
use Rattle.gnap_tables.specs.declared.rows.GrantRow.{GrantRow}
use Rattle.gnap_tables.specs.declared.rows.TokenRow.{TokenRow}
use Rattle.gnap_tables.specs.Tables.{Tables}
use Rattle.gnap_tables.specs.RowSearches.{token_of, row_by_number}
use Rattle.gnap_tables.specs.ActionsByRows.{on_row}
use Rattle.table_core.specs.CallEffects.{ActsBy}
use Rattle.table_core.specs.Choices.{of_grant, revocation_of}
use Rattle.table_core.specs.declared.revoking.Revocation.{Revocation}
use Rattle.table_core.specs.declared.revoking.Revocation.TheVariants.{Refused, Left, Marked}
use Rattle.table_core.proofs.Undrawn.{undrawn_of, no_notes}

abbrev revoke_by : Text → List GrantRow → Option TokenRow → Action
revoke_by key grants found = on_found InvalidRequest
    (λ (token : TokenRow). on_row InvalidRequest grants key token (λ (opening : OpeningNote). RevokeToken (token_of token) token.retired)) found

-- where it is refused, its code is told and nothing changes
abbrev RefusalActs : Supply → Tables → Revocation → Action → Type 0
RefusalActs supply t (Refused code) action = ActsBy supply action t t (undrawn_of (Error code))
RefusalActs supply t _ action = Unit {0}

refusal_acts : (supply : Supply) (t : Tables) (key : Text) (grants : List GrantRow) (found : Option TokenRow)
    → RefusalActs supply t (revocation_of key grants found) (revoke_by key grants found)
refusal_acts supply t key grants None = no_notes supply (Refuse InvalidRequest) t (Error InvalidRequest) refl refl
refusal_acts supply t key grants (Some token) = by (row_by_number token.grant grants)
  where
    retired : (b : Bool) → RefusalActs supply t (if b then Left else Marked token.serial) (RevokeToken (token_of token) token.retired)
    retired true = tt
    retired false = tt

    keyed : (b : Bool) → RefusalActs supply t (if b then (if token.retired then Left else Marked token.serial) else Refused InvalidClient)
        (if b then RevokeToken (token_of token) token.retired else Refuse InvalidClient)
    keyed true = retired token.retired
    keyed false = no_notes supply (Refuse InvalidClient) t (Error InvalidClient) refl refl

    by : (x : Option GrantRow) → RefusalActs supply t (of_grant key token x)
        (on_found InvalidRequest (λ (row : GrantRow). if same_text token.key key then RevokeToken (token_of token) token.retired else Refuse InvalidClient) x)
    by None = no_notes supply (Refuse InvalidRequest) t (Error InvalidRequest) refl refl
    by (Some row) = keyed (same_text token.key key)

pub revocation_refused : (supply : Supply) (t : Tables) (key : Text) (grants : List GrantRow) (found : Option TokenRow) (code : ErrorCode)
    → revocation_of key grants found ≡ Refused code
    → ActsBy supply (revoke_by key grants found) t t (undrawn_of (Error code))
revocation_refused supply t key grants found code e = subst (λ (x : Revocation). RefusalActs supply t x (revoke_by key grants found)) e
    (refusal_acts supply t key grants found)
