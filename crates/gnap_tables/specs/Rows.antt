-- The rows that stand for notes: of each grant that isn't finalized, and of each token that can still be managed. Each row has what the notes say.
use Rattle.std.specs.Prelude.{ℕ, Bool, false, not, List, [], reverse, option_map}
use Rattle.std.specs.Option.{unwrap_or}
use Rattle.std.specs.List.{list_any, filter_map}
use Rattle.std.specs.declared.option.Option.{Option}
use Rattle.std.specs.declared.option.Option.TheVariants.{None, Some}
use Rattle.gnap_model.specs.Common.{first_of, some_if}
use Rattle.gnap_model.specs.declared.objects.Ask.{Ask}
use Rattle.gnap_model.specs.declared.notes.OpeningNote.{OpeningNote}
use Rattle.gnap_model.specs.declared.notes.TermsNote.{TermsNote}
use Rattle.gnap_model.specs.declared.notes.RoundNote.{RoundNote}
use Rattle.gnap_model.specs.declared.notes.DecisionNote.{DecisionNote}
use Rattle.gnap_model.specs.declared.notes.TokenNote.{TokenNote}
use Rattle.gnap_model.specs.declared.notes.Note.{Note}
use Rattle.gnap_model.specs.declared.notes.Note.TheVariants.{Opened, Issued}
use Rattle.gnap_model.specs.Standing.{GrantState, grant_state, is_finalized, is_approved, terms_of, consent_of, door, earliest_in, decision_of, wrongs_of, is_managed, is_retirement}
use Rattle.gnap_model.specs.Standing.GrantState.{IsPending}
use Rattle.gnap_model.specs.Actions.{or_zeros}
pub use Rattle.gnap_tables.specs.declared.rows.Decision.{Decision}
pub use Rattle.gnap_tables.specs.declared.rows.Round.{Round}
pub use Rattle.gnap_tables.specs.declared.rows.GrantRow.{GrantRow}
pub use Rattle.gnap_tables.specs.declared.rows.TokenRow.{TokenRow}

-- ---- grants

abbrev pub asks_of : Option TermsNote → List Ask
asks_of None = []
asks_of (Some terms) = terms.asks

abbrev pub single_of : Option TermsNote → Bool
single_of None = false
single_of (Some terms) = terms.single

abbrev pub subject_of : Option TermsNote → Bool
subject_of None = false
subject_of (Some terms) = terms.subject

abbrev pub decision_row : DecisionNote → Decision
decision_row decision = record {
  verdict = decision.verdict;
  reference = decision.reference;
  rights = decision.rights;
  subject = decision.subject;
}

-- a round with so many wrong references and this decision
abbrev pub round_row : ℕ → Option DecisionNote → RoundNote → Round
round_row wrongs decision round = record {
  handle = round.handle;
  code = round.code;
  nonce = round.nonce;
  modes = round.modes;
  until = round.until;
  over = round.over;
  wrongs = wrongs;
  decision = option_map decision_row decision;
}

-- the round of a pending grant
abbrev pub round_in : List Note → ℕ → GrantState → Option Round
round_in trail grant (IsPending round) = Some (round_row (wrongs_of trail grant) (decision_of trail grant) round)
round_in trail grant _ = None

-- the row of a grant, by what its opening, its terms and its state are
abbrev pub row_at : List Note → OpeningNote → Option TermsNote → GrantState → GrantRow
row_at trail opening terms state = record {
  number = opening.grant;
  key = opening.key;
  by_object = opening.by_object;
  user = opening.user;
  asks = asks_of terms;
  single = single_of terms;
  subject = subject_of terms;
  end = opening.end;
  consent = consent_of trail opening.grant;
  approved = is_approved state;
  round = round_in trail opening.grant state;
  door = or_zeros 32 (door trail opening.grant);
  earliest = unwrap_or (first_of (earliest_in opening.grant) trail) 0;
}

abbrev pub grant_row : List Note → ℕ → OpeningNote → GrantRow
grant_row trail now opening = row_at trail opening (terms_of trail opening.grant) (grant_state trail opening.grant now)

-- the row of the grant that the note opened, where it isn't finalized
abbrev pub grant_row_in : List Note → ℕ → Note → Option GrantRow
grant_row_in trail now (Opened opening) =
    some_if (not (is_finalized (grant_state trail opening.grant now))) (grant_row trail now opening)
grant_row_in trail now _ = None

-- the grants that aren't finalized, in order of their opening
abbrev pub grant_rows : List Note → ℕ → List GrantRow
grant_rows trail now = reverse (filter_map (grant_row_in trail now) trail)

-- ---- tokens

-- the row of a token, marked as retired or not
abbrev pub marked_token : Bool → TokenNote → TokenRow
marked_token retired token = record {
  serial = token.serial;
  grant = token.grant;
  value = token.value;
  manage = token.manage;
  label = token.label;
  rights = token.rights;
  bearer = token.bearer;
  key = token.key;
  issued = token.issued;
  until = token.until;
  retired = retired;
}

abbrev pub token_row : List Note → TokenNote → TokenRow
token_row trail token = marked_token (list_any (is_retirement token.serial) trail) token

-- the row of the token that the note issued, where it can still be managed
abbrev pub token_row_in : List Note → ℕ → Note → Option TokenRow
token_row_in trail now (Issued token) = some_if (is_managed trail now token) (token_row trail token)
token_row_in trail now _ = None

-- the tokens that can still be managed, in order of their issue
abbrev pub token_rows : List Note → ℕ → List TokenRow
token_rows trail now = reverse (filter_map (token_row_in trail now) trail)
