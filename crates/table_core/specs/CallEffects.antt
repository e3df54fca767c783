-- What the answer to a call does to the tables.
use Rattle.std.specs.Prelude.{◌≡◌, ℕ, ◌<◌, ◌≤◌, ◌^◌, List, length, nat_lt, if◌then◌else◌}
use Rattle.std.specs.List.{All, count_by, flat_map}
use Rattle.gnap_model.specs.Limits.{ask_limit}
use Rattle.gnap_model.specs.Notes.{note_values}
use Rattle.gnap_model.specs.Standing.{is_opening}
use Rattle.gnap_model.specs.Actions.{Action, Supply, outcome_of}
use Rattle.gnap_model.specs.declared.calls.Call.{Call}
use Rattle.gnap_model.specs.declared.objects.Setup.{Setup}
use Rattle.gnap_tables.specs.declared.rows.GrantRow.{GrantRow}
use Rattle.gnap_tables.specs.declared.rows.TokenRow.{TokenRow}
use Rattle.gnap_tables.specs.Tables.{Tables, after_notes, sweep}
use Rattle.gnap_tables.specs.ActionsByRows.{row_action, row_supply}
use Rattle.gnap_tables.specs.StandsFor.{Kept}
use Rattle.table_laws.specs.Laws.{HasFewWrongs}
use Rattle.grant_rules.specs.declared.supply.Supply.{Supply as EntrySupply}
use Rattle.grant_states.specs.Grants.{StoredGrants}
use Rattle.token_manager.specs.Tokens.{StoredTokens, AreOfApproved}
use Rattle.table_core.specs.declared.answered.Answered.{Answered}

abbrev pub tables_in : List GrantRow → List TokenRow → Tables
tables_in grants tokens = record { grants = grants; tokens = tokens }

-- the tables at a moment
abbrev pub moved : ℕ → ℕ → Tables → Tables
moved latest moment tables = if nat_lt latest moment then sweep moment tables else tables

abbrev pub kept_in : List GrantRow → List TokenRow → ℕ → ℕ → ℕ → Kept
kept_in grants tokens next first latest = record { tables = tables_in grants tokens; next = next; first = first; latest = latest }

-- With this supply the reply is the action's, its notes change the tables, and they open so many grants and have so many drawn values.
pub record ActsBy (supply : Supply) (action : Action) (old new : Tables) (answered : Answered) : Type 0 where
  pub reply : answered.reply ≡ (outcome_of supply action).reply
  pub tables : new ≡ after_notes (outcome_of supply action).notes old
  pub opened : answered.opened ≡ count_by is_opening (outcome_of supply action).notes
  pub drawn : answered.drawn ≡ length (flat_map note_values (outcome_of supply action).notes)

-- the same of the action to which the call leads by the rows, with what the entry draws on
abbrev pub AnswersCall : Setup → ℕ → EntrySupply → Call → Tables → Tables → Answered → Type 0
AnswersCall rules next supply call old new answered =
    ActsBy (row_supply supply.first old supply.moment supply.words.now) (row_action rules next old supply.moment call) old new answered

abbrev pub HasFewAsked : GrantRow → Type 0
HasFewAsked row = length row.asks ≤ ask_limit

-- What a call may rest on: numbers and serials from these on are free, a round has fewer wrong references than end its grant, few tokens are asked for, and a
-- token that isn't retired is of an approved grant.
pub record HasRoom (next first : ℕ) (grants : StoredGrants) (tokens : StoredTokens) : Type 0 where
  pub next_small : next < 2 ^ 63
  pub first_small : first < 2 ^ 63
  pub numbers : All (λ (row : GrantRow). row.number < next) grants.rows
  pub serials : All (λ (row : TokenRow). row.serial < first) tokens.rows
  pub doors : grants.doors_below ≤ first
  pub wrongs : All (λ (row : GrantRow). HasFewWrongs row) grants.rows
  pub asks : All (λ (row : GrantRow). HasFewAsked row) grants.rows
  pub approved : AreOfApproved grants.rows tokens.rows
