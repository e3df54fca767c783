-- What is looked up in the rows, and the notes that a row stands for.
use Rattle.std.specs.Prelude.{ℕ, ◌==◌, nat_lt, Bool, false, not, ◌&&◌, List, reverse, filter, is_some}
use Rattle.std.specs.Option.{option_and_then}
use Rattle.std.specs.List.{filter_map}
use Rattle.std.specs.declared.option.Option.{Option}
use Rattle.std.specs.declared.option.Option.TheVariants.{None, Some}
use Rattle.gnap_model.specs.Common.{Text, same_text, first_of, some_if, is_text}
use Rattle.gnap_model.specs.declared.notes.OpeningNote.{OpeningNote}
use Rattle.gnap_model.specs.declared.notes.TermsNote.{TermsNote}
use Rattle.gnap_model.specs.declared.notes.RoundNote.{RoundNote}
use Rattle.gnap_model.specs.declared.notes.DecisionNote.{DecisionNote}
use Rattle.gnap_model.specs.declared.notes.TokenNote.{TokenNote}
use Rattle.gnap_tables.specs.Rows.{Decision, Round, GrantRow, TokenRow}

-- the last row in which `look` finds something
abbrev pub newest : {A B : Type 0} → (A → Option B) → List A → Option B
newest look rows = first_of look (reverse rows)

-- ---- the notes of a row

abbrev pub opening_of : GrantRow → OpeningNote
opening_of row = record { grant = row.number; key = row.key; by_object = row.by_object; user = row.user; end = row.end }

abbrev pub terms_of_row : GrantRow → TermsNote
terms_of_row row = record { grant = row.number; asks = row.asks; single = row.single; subject = row.subject }

abbrev pub round_of : ℕ → Round → RoundNote
round_of number round = record {
  grant = number;
  until = round.until;
  over = round.over;
  modes = round.modes;
  handle = round.handle;
  code = round.code;
  nonce = round.nonce;
}

abbrev pub decision_of_row : ℕ → Decision → DecisionNote
decision_of_row number decision = record {
  grant = number;
  verdict = decision.verdict;
  reference = decision.reference;
  rights = decision.rights;
  subject = decision.subject;
}

abbrev pub token_of : TokenRow → TokenNote
token_of row = record {
  serial = row.serial;
  grant = row.grant;
  label = row.label;
  rights = row.rights;
  bearer = row.bearer;
  key = row.key;
  issued = row.issued;
  until = row.until;
  value = row.value;
  manage = row.manage;
}

-- ---- grants

-- the grant with this number
abbrev pub row_by_number : ℕ → List GrantRow → Option GrantRow
row_by_number number rows = newest (λ (row : GrantRow). some_if (row.number == number) row) rows

-- the grant that this continuation value names
abbrev pub row_by_door : Text → List GrantRow → Option GrantRow
row_by_door value rows = newest (λ (row : GrantRow). some_if (same_text row.door value) row) rows

abbrev pub approved_in : Option GrantRow → Bool
approved_in None = false
approved_in (Some row) = row.approved

-- the grant with this number is approved
abbrev pub is_approved_grant : ℕ → List GrantRow → Bool
is_approved_grant number rows = approved_in (row_by_number number rows)

-- ---- interactions

-- the user may still decide
abbrev pub is_open_round : ℕ → Round → Bool
is_open_round now round = not (is_some round.decision) && nat_lt now round.until

-- the interaction of a grant, in which the user may still decide
abbrev pub open_round : ℕ → GrantRow → Option RoundNote
open_round now row = option_and_then (λ (round : Round). some_if (is_open_round now round) (round_of row.number round)) row.round

-- the live interactions, those of the last grants first
abbrev pub open_rounds : ℕ → List GrantRow → List RoundNote
open_rounds now rows = filter_map (open_round now) (reverse rows)

-- ---- tokens

-- the token with this management value
abbrev pub row_by_manage : Text → List TokenRow → Option TokenRow
row_by_manage value rows = newest (λ (row : TokenRow). some_if (same_text row.manage value) row) rows

-- not retired, before its end, and of an approved grant
abbrev pub is_live_row : ℕ → List GrantRow → TokenRow → Bool
is_live_row now grants row = not row.retired && nat_lt now row.until && is_approved_grant row.grant grants

-- the live token with this value
abbrev pub live_row : ℕ → List GrantRow → Text → List TokenRow → Option TokenRow
live_row now grants value rows = newest (λ (row : TokenRow). some_if (same_text row.value value && is_live_row now grants row) row) rows

abbrev pub live_rows : ℕ → List GrantRow → List TokenRow → List TokenRow
live_rows now grants rows = filter (λ (row : TokenRow). is_live_row now grants row) rows

-- ---- an interaction with its grant

pub record Interaction : Type 0 where
  pub row : GrantRow
  pub round : RoundNote

-- the grant's interaction, where it passes the test
abbrev pub interaction_where : (RoundNote → Bool) → ℕ → GrantRow → Option Interaction
interaction_where test now row = option_and_then (λ (round : RoundNote). some_if (test round) (record { row = row; round = round })) (open_round now row)

abbrev pub interaction_by_handle : ℕ → Text → List GrantRow → Option Interaction
interaction_by_handle now handle rows = newest (interaction_where (λ round. same_text round.handle handle) now) rows

abbrev pub interaction_by_code : ℕ → Text → List GrantRow → Option Interaction
interaction_by_code now code rows = newest (interaction_where (λ round. is_text code round.code) now) rows
