-- What a note does to the rows, and what time does.
use Rattle.std.specs.Prelude.{ℕ, ◌+◌, ◌==◌, nat_le, Bool, true, false, not, ◌||◌, List, [], ◌∷◌, ◌++◌, map, filter, option_map, if◌then◌else◌}
use Rattle.std.specs.List.{list_any}
use Rattle.std.specs.declared.option.Option.{Option}
use Rattle.std.specs.declared.option.Option.TheVariants.{None, Some}
use Rattle.gnap_model.specs.Common.{Text}
use Rattle.gnap_model.specs.declared.rights.Right.{Right}
use Rattle.gnap_model.specs.Actions.{or_zeros}
use Rattle.gnap_model.specs.declared.notes.OpeningNote.{OpeningNote}
use Rattle.gnap_model.specs.declared.notes.TermsNote.{TermsNote}
use Rattle.gnap_model.specs.declared.notes.RoundNote.{RoundNote}
use Rattle.gnap_model.specs.declared.notes.DecisionNote.{DecisionNote}
use Rattle.gnap_model.specs.declared.notes.TokenNote.{TokenNote}
use Rattle.gnap_model.specs.declared.notes.Why.{Why}
use Rattle.gnap_model.specs.declared.notes.Note.{Note}
use Rattle.gnap_model.specs.declared.notes.Why.TheVariants.{ByRotation, ByModification, ByRevocation}
use Rattle.gnap_model.specs.declared.notes.Note.TheVariants.{Opened, Terms, Approved, Issued, Door, Pended, DecidedAs, Finalized, Wrong, Retired}
use Rattle.gnap_tables.specs.Rows.{Round, GrantRow, TokenRow, decision_row, round_row, grant_rows, marked_token, token_rows}

-- both tables
pub record Tables : Type 0 where
  pub grants : List GrantRow
  pub tokens : List TokenRow

-- the tables that stand for notes, the newest first, at a moment
abbrev pub tables_of : List Note → ℕ → Tables
tables_of trail now = record { grants = grant_rows trail now; tokens = token_rows trail now }

-- ---- one row

-- a grant that was just opened, without terms and continuation value
abbrev pub new_grant : OpeningNote → GrantRow
new_grant opening = record {
  number = opening.grant;
  key = opening.key;
  by_object = opening.by_object;
  user = opening.user;
  asks = [];
  single = false;
  subject = false;
  end = opening.end;
  consent = [];
  approved = true;
  round = None;
  door = or_zeros 32 None;
  earliest = 0;
}

abbrev pub with_terms : TermsNote → GrantRow → GrantRow
with_terms terms row = record row { asks = terms.asks; single = terms.single; subject = terms.subject }

abbrev pub with_approval : List Right → GrantRow → GrantRow
with_approval consent row = record row { consent = consent; approved = true; round = None }

abbrev pub with_round : RoundNote → GrantRow → GrantRow
with_round round row = record row { approved = false; round = Some (round_row 0 None round) }

abbrev pub with_decision : DecisionNote → GrantRow → GrantRow
with_decision decision row = record row { round = option_map (λ (round : Round). record round { decision = Some (decision_row decision) }) row.round }

abbrev pub with_wrong : GrantRow → GrantRow
with_wrong row = record row { round = option_map (λ (round : Round). record round { wrongs = round.wrongs + 1 }) row.round }

abbrev pub with_door : Text → ℕ → GrantRow → GrantRow
with_door value earliest row = record row { door = value; earliest = earliest }

-- a token that was just issued
abbrev pub new_token : TokenNote → TokenRow
new_token token = marked_token false token

abbrev pub with_retirement : TokenRow → TokenRow
with_retirement row = record row { retired = true }

-- ---- the tables

-- the row of the grant is changed, and no other
abbrev pub change_grant : ℕ → (GrantRow → GrantRow) → List GrantRow → List GrantRow
change_grant number change rows = map (λ (row : GrantRow). if number == row.number then change row else row) rows

abbrev pub drop_grant : ℕ → List GrantRow → List GrantRow
drop_grant number rows = filter (λ (row : GrantRow). not (number == row.number)) rows

abbrev pub change_token : ℕ → (TokenRow → TokenRow) → List TokenRow → List TokenRow
change_token serial change rows = map (λ (row : TokenRow). if serial == row.serial then change row else row) rows

abbrev pub drop_token : ℕ → List TokenRow → List TokenRow
drop_token serial rows = filter (λ (row : TokenRow). not (serial == row.serial)) rows

abbrev pub drop_tokens_of : ℕ → List TokenRow → List TokenRow
drop_tokens_of grant rows = filter (λ (row : TokenRow). not (grant == row.grant)) rows

-- what a note does to the grants
abbrev pub grants_after : Note → List GrantRow → List GrantRow
grants_after (Opened opening) rows = rows ++ new_grant opening ∷ []
grants_after (Terms terms) rows = change_grant terms.grant (with_terms terms) rows
grants_after (Approved number consent) rows = change_grant number (with_approval consent) rows
grants_after (Door number value earliest) rows = change_grant number (with_door value earliest) rows
grants_after (Pended round) rows = change_grant round.grant (with_round round) rows
grants_after (DecidedAs decision) rows = change_grant decision.grant (with_decision decision) rows
grants_after (Finalized number) rows = drop_grant number rows
grants_after (Wrong number) rows = change_grant number with_wrong rows
grants_after (Issued token) rows = rows
grants_after (Retired serial why) rows = rows

-- a rotation or a modification takes the row out, a revocation marks it
abbrev pub tokens_retired : ℕ → Why → List TokenRow → List TokenRow
tokens_retired serial ByRevocation rows = change_token serial with_retirement rows
tokens_retired serial ByRotation rows = drop_token serial rows
tokens_retired serial ByModification rows = drop_token serial rows

-- what a note does to the tokens
abbrev pub tokens_after : Note → List TokenRow → List TokenRow
tokens_after (Issued token) rows = rows ++ new_token token ∷ []
tokens_after (Finalized number) rows = drop_tokens_of number rows
tokens_after (Retired serial why) rows = tokens_retired serial why rows
tokens_after _ rows = rows

abbrev pub after_note : Note → Tables → Tables
after_note note tables = record { grants = grants_after note tables.grants; tokens = tokens_after note tables.tokens }

-- what notes do to the tables, one after another
abbrev pub after_notes : List Note → Tables → Tables
after_notes [] tables = tables
after_notes (note ∷ notes) tables = after_notes notes (after_note note tables)

-- ---- time

abbrev pub is_round_over : ℕ → Option Round → Bool
is_round_over now None = false
is_round_over now (Some round) = nat_le round.over now

-- the end of the grant has come, or that of its round
abbrev pub is_row_over : ℕ → GrantRow → Bool
is_row_over now row = nat_le row.end now || is_round_over now row.round

abbrev pub sweep_grants : ℕ → List GrantRow → List GrantRow
sweep_grants now rows = filter (λ (row : GrantRow). not (is_row_over now row)) rows

abbrev pub has_grant : ℕ → List GrantRow → Bool
has_grant number rows = list_any (λ (row : GrantRow). row.number == number) rows

abbrev pub sweep_tokens : List GrantRow → List TokenRow → List TokenRow
sweep_tokens grants rows = filter (λ (row : TokenRow). has_grant row.grant grants) rows

abbrev pub sweep : ℕ → Tables → Tables
sweep now tables =
    let grants = sweep_grants now tables.grants in
    record { grants = grants; tokens = sweep_tokens grants tables.tokens }
