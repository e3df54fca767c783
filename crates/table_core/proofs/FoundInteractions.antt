-- An interaction that was found is that of its row's round.
use Rattle.std.proofs.Common.{ℕ, ◌≡◌, Bool, true, false, List, [], ◌∷◌, reverse, refl, sym, ◌∙◌, ap, Option, Some, None}
use Rattle.std.specs.Prelude.{option_map}
use Rattle.std.specs.Option.{option_or, option_and_then}
use Rattle.gnap_model.specs.Common.{first_of, some_if}
use Rattle.gnap_model.specs.declared.notes.RoundNote.{RoundNote}
use Rattle.gnap_tables.specs.declared.rows.GrantRow.{GrantRow}
use Rattle.gnap_tables.specs.declared.rows.Round.{Round}
use Rattle.gnap_tables.specs.RowSearches.{Interaction, interaction_where, is_open_round, newest, round_of}
use Rattle.table_core.specs.Fronts.{interaction_of}

abbrev row_in : Interaction → GrantRow
row_in i = i.row

abbrev whole : Option Interaction → Option Interaction
whole found = option_and_then interaction_of (option_map row_in found)

abbrev passing : (RoundNote → Bool) → GrantRow → Option RoundNote → Option Interaction
passing test row found = option_and_then (λ (round : RoundNote). some_if (test round) (record { row = row; round = round })) found

abbrev open_in : ℕ → ℕ → Option Round → Option RoundNote
open_in now number round = option_and_then (λ (r : Round). some_if (is_open_round now r) (round_of number r)) round

row_whole : (test : RoundNote → Bool) (now : ℕ) (row : GrantRow) → interaction_where test now row ≡ whole (interaction_where test now row)
row_whole test now row = by row.round refl
  where
    by : (r : Option Round) → row.round ≡ r → passing test row (open_in now row.number r) ≡ whole (passing test row (open_in now row.number r))
    by None e = refl
    by (Some round) e = at (is_open_round now round) (test (round_of row.number round)) refl
      where
        at : (a b : Bool) → test (round_of row.number round) ≡ b
            → passing test row (some_if a (round_of row.number round)) ≡ whole (passing test row (some_if a (round_of row.number round)))
        at false b f = refl
        at true false f = rw f refl
        at true true f = rw (f, e) refl

rows_whole : (test : RoundNote → Bool) (now : ℕ) (rows : List GrantRow)
    → first_of (interaction_where test now) rows ≡ whole (first_of (interaction_where test now) rows)
rows_whole test now [] = refl
rows_whole test now (row ∷ rows) = at (interaction_where test now row) (row_whole test now row) (rows_whole test now rows)
  where
    at : (o : Option Interaction) → o ≡ whole o → first_of (interaction_where test now) rows ≡ whole (first_of (interaction_where test now) rows)
        → option_or o (first_of (interaction_where test now) rows) ≡ whole (option_or o (first_of (interaction_where test now) rows))
    at None e rest = rest
    at (Some i) e rest = e

-- what was found, from the row that a search gave
pub found_from : (test : RoundNote → Bool) (now : ℕ) (rows : List GrantRow) (row : Option GrantRow)
    → row ≡ option_map (λ (i : Interaction). i.row) (newest (interaction_where test now) rows)
    → option_and_then interaction_of row ≡ newest (interaction_where test now) rows
found_from test now rows row is = ap (option_and_then interaction_of) is ∙ sym (rows_whole test now (reverse rows))
