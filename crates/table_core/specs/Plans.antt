-- What a call comes to, and what it does to the tables.
use Rattle.std.specs.Prelude.{◌≡◌, ℕ, ◌+◌, ◌*◌, ◌≤◌, Bool, List, [], ◌∷◌, ◌++◌, map, length, if◌then◌else◌}
use Rattle.std.specs.Global.{Box}
use Rattle.std.specs.List.{count_by, flat_map}
use Rattle.std.specs.declared.option.Option.{Option}
use Rattle.std.specs.declared.option.Option.TheVariants.{None, Some}
use Rattle.gnap_model.specs.Common.{Text}
use Rattle.gnap_model.specs.Limits.{wait}
use Rattle.gnap_model.specs.Notes.{note_values}
use Rattle.gnap_model.specs.Standing.{is_opening}
use Rattle.gnap_model.specs.Actions.{Action, outcome_of, drawn_value, tokens_for, token_out}
use Rattle.gnap_model.specs.declared.rights.Right.{Right}
use Rattle.gnap_model.specs.declared.objects.Ask.{Ask}
use Rattle.gnap_model.specs.declared.calls.Reply.{Reply}
use Rattle.gnap_model.specs.declared.calls.Reply.TheVariants.{Granted}
use Rattle.gnap_model.specs.declared.notes.TermsNote.{TermsNote}
use Rattle.gnap_tables.specs.declared.rows.GrantRow.{GrantRow}
use Rattle.gnap_tables.specs.declared.rows.Round.{Round}
use Rattle.gnap_tables.specs.declared.rows.TokenRow.{TokenRow}
use Rattle.gnap_tables.specs.RowSearches.{opening_of}
use Rattle.gnap_tables.specs.Tables.{Tables, after_notes, change_grant, drop_grant, drop_tokens_of, new_token, with_approval, with_door, with_terms}
use Rattle.grant_states.specs.Grants.{BeginsWith, changed_by, in_round}
use Rattle.token_manager.specs.Tokens.{IsTokenRow}
use Rattle.table_core.specs.CallEffects.{tables_in}
use Rattle.table_core.specs.Entries.{supply, tables}
use Rattle.table_core.specs.declared.entering.Entering.{Entering}
use Rattle.table_core.specs.declared.entering.Renewal.{Renewal}
use Rattle.table_core.specs.declared.entering.TableChange.{TableChange}
use Rattle.table_core.specs.declared.entering.TableChange.TheVariants.{Nothing, Open, End, Alter, Renew, Pend}
use Rattle.table_core.specs.declared.entering.Plan.{Plan}

-- a reply that changes nothing
abbrev pub nothing_with : Reply → Plan
nothing_with reply = record { reply = reply; drawn = 0; change = Nothing }

-- ---- the tables after a change

abbrev pub rows_in : List (Box TokenRow) → List TokenRow
rows_in boxes = map (λ (box : Box TokenRow). box.value) boxes

abbrev pub retermed : ℕ → Option TermsNote → List GrantRow → List GrantRow
retermed number None rows = rows
retermed number (Some terms) rows = change_grant number (with_terms terms) rows

abbrev pub approved : ℕ → Option (List Right) → List GrantRow → List GrantRow
approved number None rows = rows
approved number (Some consent) rows = change_grant number (with_approval consent) rows

abbrev pub unretired : Bool → ℕ → List TokenRow → List TokenRow
unretired retires number rows = if retires then drop_tokens_of number rows else rows

abbrev pub renewed : Renewal → Tables → Tables
renewed renewal tables = tables_in
    (change_grant renewal.number (with_door renewal.door renewal.earliest)
    (approved renewal.number renewal.consent (retermed renewal.number renewal.terms tables.grants)))
    (unretired renewal.retires renewal.number tables.tokens ++ rows_in renewal.tokens)

abbrev pub pended : TermsNote → Round → Text → ℕ → List GrantRow → List GrantRow
pended terms round door earliest rows =
    change_grant terms.grant (in_round round) (change_grant terms.grant (with_door door earliest) (change_grant terms.grant (with_terms terms) rows))

abbrev pub carried : TableChange → Tables → Tables
carried Nothing tables = tables
carried (Open row serial tokens) tables = tables_in (tables.grants ++ row.value ∷ []) (tables.tokens ++ rows_in tokens)
carried (End number) tables = tables_in (drop_grant number tables.grants) (drop_tokens_of number tables.tokens)
carried (Alter number change) tables = tables_in (change_grant number (changed_by change) tables.grants) tables.tokens
carried (Renew renewal) tables = renewed renewal tables
carried (Pend terms round door serial earliest) tables = tables_in (pended terms round door earliest tables.grants) (drop_tokens_of terms.grant tables.tokens)

-- how many grants are opened
abbrev pub opened_by : TableChange → ℕ
opened_by (Open row serial tokens) = 1
opened_by _ = 0

-- ---- what a change needs

-- a continuation value with a serial from the entry's first one on, among so many
pub record IsDrawn (first drawn serial : ℕ) (value : Text) : Type 0 where
  pub begins : BeginsWith serial value
  pub low : first ≤ serial
  pub high : serial + 1 ≤ first + drawn

-- rows of tokens whose serials rise from this one on
abbrev pub RiseFrom : ℕ → List TokenRow → Type 0
RiseFrom first [] = Unit {0}
RiseFrom first (row ∷ rows) = IsTokenRow row × (first ≤ row.serial) × RiseFrom (row.serial + 1) rows

-- the change can be carried out by an entry with these next numbers, which draws so many values
abbrev pub CanCarry : ℕ → ℕ → ℕ → TableChange → Type 0
CanCarry next first drawn (Open row serial tokens) = (row.value.number ≡ next) × IsDrawn first drawn serial row.value.door × RiseFrom first (rows_in tokens)
CanCarry next first drawn (Renew renewal) = IsDrawn first drawn renewal.serial renewal.door × RiseFrom first (rows_in renewal.tokens)
CanCarry next first drawn (Pend terms round door serial earliest) = IsDrawn first drawn serial door
CanCarry next first drawn _ = Unit {0}

-- The plan is to do the action.
pub record Plans (entering : Entering) (action : Action) (plan : Plan) : Type 0 where
  pub reply : plan.reply ≡ (outcome_of (supply entering) action).reply
  pub change : carried plan.change (tables entering) ≡ after_notes (outcome_of (supply entering) action).notes (tables entering)
  pub opened : opened_by plan.change ≡ count_by is_opening (outcome_of (supply entering) action).notes
  pub drawn : plan.drawn ≡ length (flat_map note_values (outcome_of (supply entering) action).notes)
  pub few : plan.drawn ≤ 17
  pub can : CanCarry entering.next entering.supply.first plan.drawn plan.change

-- ---- asks that are granted to a grant that goes on

-- the plan that grants the asks to the grant of the row, by these rows of tokens
abbrev pub granting_plan : Entering → GrantRow → (asks : List Ask) → (single : Bool) → (subject : Option Text) → (retires : Bool) → Option TermsNote
    → (consent : List Right) → List (Box TokenRow) → Plan
granting_plan entering row asks single subject retires terms consent tokens = record {
  reply = Granted (drawn_value (supply entering) (2 * length asks))
      (map (token_out entering.supply.moment) (tokens_for (supply entering) (opening_of row) asks 0)) single subject None;
  drawn = 2 * length asks + 1;
  change = Renew (record {
    number = row.number;
    retires = retires;
    terms = terms;
    consent = Some consent;
    door = drawn_value (supply entering) (2 * length asks);
    serial = entering.supply.first + 2 * length asks;
    earliest = entering.supply.moment + wait;
    tokens = tokens;
  });
}

-- The plan grants the asks to the grant of the row.
pub record GrantsOn (entering : Entering) (row : GrantRow) (asks : List Ask) (single : Bool) (subject : Option Text) (retires : Bool) (terms : Option TermsNote)
    (consent : List Right) (plan : Plan) : Type 0 where
  pub tokens : List (Box TokenRow)
  pub rows : rows_in tokens ≡ map new_token (tokens_for (supply entering) (opening_of row) asks 0)
  pub is : plan ≡ granting_plan entering row asks single subject retires terms consent tokens
