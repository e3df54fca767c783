-- The row with an interaction, by what its round says.
use Rattle.std.proofs.Common.{ℕ, ◌≡◌, Bool, true, false, List, [], ◌∷◌, reverse, refl, ◌∙◌, ap, Option, Some, None}
use Rattle.std.specs.Prelude.{option_map, not, ◌&&◌, nat_lt, is_some}
use Rattle.std.specs.Option.{option_or, option_and_then}
use Rattle.gnap_model.specs.Common.{first_of, some_if}
use Rattle.gnap_model.specs.declared.notes.RoundNote.{RoundNote}
use Rattle.gnap_tables.specs.declared.rows.GrantRow.{GrantRow}
use Rattle.gnap_tables.specs.declared.rows.Round.{Round}
use Rattle.gnap_tables.specs.RowSearches.{Interaction, interaction_where, is_open_round, newest, round_of}
use Rattle.grant_states.specs.declared.interactions.InteractionName.{InteractionName}
use Rattle.grant_states.specs.declared.interactions.InteractionName.TheVariants.{Handle, Code}
use Rattle.grant_states.specs.Interactions.{goes_by, is_called, is_open_by}

option_map-or : {A B : Type 0} (f : A → B) (a b : Option A) → option_map f (option_or a b) ≡ option_or (option_map f a) (option_map f b)
option_map-or f None b = refl
option_map-or f (Some x) b = refl

-- what is found is as much of what each look-up finds
found_parts : {A B C : Type 0} (f : B → C) (look : A → Option B) (part : A → Option C) (xs : List A) → ((x : A) → option_map f (look x) ≡ part x)
    → option_map f (first_of look xs) ≡ first_of part xs
found_parts f look part [] same = refl
found_parts {A} {B} {C} f look part (x ∷ xs) same =
    option_map-or f (look x) (first_of look xs) ∙ ap (λ (o : Option C). option_or o (option_map f (first_of look xs))) (same x)
    ∙ ap (option_or (part x)) (found_parts f look part xs same)

named_round : (name : InteractionName) (number : ℕ) (round : Round) → goes_by name (round_of number round) ≡ is_called name round
named_round (Handle handle) number round = refl
named_round (Code code) number round = refl

row_open : (name : InteractionName) (now : ℕ) (row : GrantRow)
    → option_map (λ (i : Interaction). i.row) (interaction_where (goes_by name) now row) ≡ some_if (is_open_by name now row.round) row
row_open name now row = by row.round
  where
    by : (r : Option Round)
        → option_map (λ (i : Interaction). i.row) (option_and_then (λ (round : RoundNote). some_if (goes_by name round) (record { row = row; round = round }))
        (option_and_then (λ (round : Round). some_if (is_open_round now round) (round_of row.number round)) r)) ≡ some_if (is_open_by name now r) row
    by None = refl
    by (Some round) = at (not (is_some round.decision)) (nat_lt now round.until)
      where
        at : (a b : Bool)
            → option_map (λ (i : Interaction). i.row)
            (option_and_then (λ (r : RoundNote). some_if (goes_by name r) (record { row = row; round = r })) (some_if (a && b) (round_of row.number round)))
            ≡ some_if (a && b && is_called name round) row
        at true true = ends (goes_by name (round_of row.number round)) (is_called name round) (named_round name row.number round)
          where
            ends : (c d : Bool) → c ≡ d → option_map (λ (i : Interaction). i.row) (some_if c (record { row = row; round = round_of row.number round }))
                ≡ some_if d row
            ends true true e = refl
            ends true false e = cc e
            ends false true e = cc e
            ends false false e = refl
        at true false = refl
        at false b = refl

-- the last row of an interaction that goes by the name is the last row that is open by it
pub open_rows : (name : InteractionName) (now : ℕ) (rows : List GrantRow)
    → option_map (λ (i : Interaction). i.row) (newest (interaction_where (goes_by name) now) rows)
    ≡ newest (λ (row : GrantRow). some_if (is_open_by name now row.round) row) rows
open_rows name now rows =
    found_parts (λ (i : Interaction). i.row) (interaction_where (goes_by name) now) (λ (row : GrantRow). some_if (is_open_by name now row.round) row)
    (reverse rows) (row_open name now)
