-- The interactions of the rows are those of the notes.
use Rattle.std.proofs.Common.{ℕ, ◌≡◌, Bool, true, false, List, refl, sym, ◌∙◌, ap, Option, Some, None}
use Rattle.std.specs.Prelude.{◌&&◌, not, nat_lt, is_some, option_map}
use Rattle.std.specs.Option.{option_and_then}
use Rattle.std.specs.List.{filter_map}
use Rattle.std.proofs.lemmas.List.{reverse-reverse}
use Rattle.gnap_model.specs.Common.{Text, same_text, first_of, some_if, is_text}
use Rattle.gnap_model.specs.declared.notes.OpeningNote.{OpeningNote}
use Rattle.gnap_model.specs.declared.notes.RoundNote.{RoundNote}
use Rattle.gnap_model.specs.declared.notes.Note.{Note}
use Rattle.gnap_model.specs.declared.notes.Note.TheVariants.{Opened, Terms, Approved, Issued, Door, Pended, DecidedAs, Finalized, Wrong, Retired}
use Rattle.gnap_model.specs.Standing.{GrantState, grant_state, is_finalized, decision_of, live_round, is_undecided, interaction_in, live_rounds, live_codes, code_in, round_by_handle, round_by_code}
use Rattle.gnap_model.specs.Standing.GrantState.{IsPending, IsApproved, IsFinalized}
use Rattle.gnap_model.proofs.TrailNotes.{HasNote, first_noted, pending_grant}
use Rattle.gnap_model.proofs.LookUps.{some_if_some}
use Rattle.gnap_tables.specs.declared.rows.Round.{Round}
use Rattle.gnap_tables.specs.declared.rows.GrantRow.{GrantRow}
use Rattle.gnap_tables.specs.Rows.{decision_row, grant_row, grant_row_in, grant_rows}
use Rattle.gnap_tables.specs.RowSearches.{newest, round_of, is_open_round, open_round, open_rounds, Interaction, interaction_where, interaction_by_handle, interaction_by_code}
use Rattle.gnap_tables.proofs.Lists.{filter_map-filter_map}
use Rattle.table_laws.proofs.Bridges.{in_grants, option_map-first_of, first_of-filter_map}
use Rattle.table_laws.proofs.TokenBridges.{pass_same, first_same}

some_mapped : {A B : Type 0} (f : A → B) (x : Option A) → is_some (option_map f x) ≡ is_some x
some_mapped f None = refl
some_mapped f (Some y) = refl

-- the interaction of a row is that of its grant
pub open_round_is : (trail : List Note) (now : ℕ) (n : Note) → option_and_then (open_round now) (grant_row_in trail now n) ≡ interaction_in trail now n
open_round_is trail now (Opened o) = at (grant_state trail o.grant now) refl
  where
    pending : (r : RoundNote) (b : Bool) → r.grant ≡ o.grant → b ≡ is_undecided trail o.grant
        → some_if (b && nat_lt now r.until) (record r { grant = o.grant }) ≡ some_if (is_undecided trail r.grant && nat_lt now r.until) r
    pending r b same e = rw (e, sym same) refl

    at : (s : GrantState) → grant_state trail o.grant now ≡ s → option_and_then (open_round now) (grant_row_in trail now (Opened o)) ≡ live_round trail now s
    at IsFinalized e = rw e refl
    at IsApproved e = rw e refl
    at (IsPending r) e = rw e (pending r (not (is_some (option_map decision_row (decision_of trail o.grant)))) (pending_grant trail o.grant now r e)
        (ap not (some_mapped decision_row (decision_of trail o.grant))))
open_round_is trail now (Terms w) = refl
open_round_is trail now (Approved k c) = refl
open_round_is trail now (Issued t) = refl
open_round_is trail now (Door k v x) = refl
open_round_is trail now (Pended r) = refl
open_round_is trail now (DecidedAs d) = refl
open_round_is trail now (Finalized k) = refl
open_round_is trail now (Wrong k) = refl
open_round_is trail now (Retired s w) = refl

-- The live interactions.
pub open_rounds_are : (trail : List Note) (now : ℕ) → open_rounds now (grant_rows trail now) ≡ live_rounds trail now
open_rounds_are trail now =
    ap (filter_map (open_round now)) (reverse-reverse (filter_map (grant_row_in trail now) trail))
    ∙ filter_map-filter_map (grant_row_in trail now) (open_round now) trail
    ∙ pass_same (λ n. option_and_then (open_round now) (grant_row_in trail now n)) (interaction_in trail now) trail (λ n h. open_round_is trail now n)

-- The codes that are taken.
pub codes_are : (trail : List Note) (now : ℕ) → filter_map code_in (open_rounds now (grant_rows trail now)) ≡ live_codes trail now
codes_are trail now = ap (filter_map code_in) (open_rounds_are trail now)

-- The first interaction that passes a test.
found_round : (test : RoundNote → Bool) (trail : List Note) (now : ℕ)
    → option_map (λ (i : Interaction). i.round) (newest (interaction_where test now) (grant_rows trail now))
    ≡ first_of (λ (round : RoundNote). some_if (test round) round) (live_rounds trail now)
found_round test trail now =
    ap (option_map (λ (i : Interaction). i.round)) (in_grants (interaction_where test now) trail now)
    ∙ option_map-first_of (λ (i : Interaction). i.round) (λ n. option_and_then (interaction_where test now) (grant_row_in trail now n)) trail
    ∙ first_same (λ n. option_map (λ (i : Interaction). i.round) (option_and_then (interaction_where test now) (grant_row_in trail now n)))
    (λ n. option_and_then look (interaction_in trail now n)) trail
    (λ n h. under (grant_row_in trail now n) ∙ ap (option_and_then look) (open_round_is trail now n))
    ∙ sym (first_of-filter_map look (interaction_in trail now) trail)
  where
    look : RoundNote → Option RoundNote
    look round = some_if (test round) round

    passed : (row : GrantRow) (r : RoundNote) (b : Bool) → option_map (λ (i : Interaction). i.round) (some_if b (record { row = row; round = r })) ≡ some_if b r
    passed row r true = refl
    passed row r false = refl

    inner : (row : GrantRow) (x : Option RoundNote)
        → option_map (λ (i : Interaction). i.round) (option_and_then (λ (round : RoundNote). some_if (test round) (record { row = row; round = round })) x)
        ≡ option_and_then look x
    inner row None = refl
    inner row (Some r) = passed row r (test r)

    under : (x : Option GrantRow) → option_map (λ (i : Interaction). i.round) (option_and_then (interaction_where test now) x)
        ≡ option_and_then look (option_and_then (open_round now) x)
    under None = refl
    under (Some row) = inner row (open_round now row)

pub handle_is : (trail : List Note) (now : ℕ) (handle : Text)
    → option_map (λ (i : Interaction). i.round) (interaction_by_handle now handle (grant_rows trail now)) ≡ round_by_handle trail now handle
handle_is trail now handle = found_round (λ round. same_text round.handle handle) trail now

pub code_is : (trail : List Note) (now : ℕ) (code : Text)
    → option_map (λ (i : Interaction). i.round) (interaction_by_code now code (grant_rows trail now)) ≡ round_by_code trail now code
code_is trail now code = found_round (λ round. is_text code round.code) trail now

-- What is found is the interaction of a grant that goes on.
pub record IsFound (trail : List Note) (now : ℕ) (i : Interaction) : Type 0 where
  pub opening : OpeningNote
  pub opened : HasNote trail (Opened opening)
  pub going : is_finalized (grant_state trail opening.grant now) ≡ false
  pub row_is : i.row ≡ grant_row trail now opening
  pub grant_is : i.round.grant ≡ opening.grant

pub found_row : (test : RoundNote → Bool) (trail : List Note) (now : ℕ) (i : Interaction) → newest (interaction_where test now) (grant_rows trail now) ≡ Some i
    → IsFound trail now i
found_row test trail now i e =
    let f = first_noted (λ n. option_and_then (interaction_where test now) (grant_row_in trail now n)) trail i
    (sym (in_grants (interaction_where test now) trail now) ∙ e) in at f.0 f.1 f.2
  where
    passed : (row : GrantRow) (r : RoundNote) (b : Bool) → some_if b (record { row = row; round = r }) ≡ Some i → (i.row ≡ row) × (i.round ≡ r)
    passed row r true h = let k : record { row = row; round = r }
        ≡ i = cc h in (sym (ap (λ (j : Interaction). j.row) k), sym (ap (λ (j : Interaction). j.round) k))
    passed row r false h = cc h

    round : (row : GrantRow) (x : Option RoundNote)
        → option_and_then (λ (round : RoundNote). some_if (test round) (record { row = row; round = round })) x ≡ Some i → (i.row ≡ row) × (x ≡ Some i.round)
    round row None h = cc h
    round row (Some r) h = let p = passed row r (test r) h in (p.0, sym (ap (λ (y : RoundNote). Some y) p.1))

    numbered : (row : GrantRow) (x : Option Round) (b : Round → Bool) → option_and_then (λ (y : Round). some_if (b y) (round_of row.number y)) x ≡ Some i.round
        → i.round.grant ≡ row.number
    numbered row None b h = cc h
    numbered row (Some y) b h = let p = some_if_some (b y) (round_of row.number y) i.round h in sym (ap (λ (z : RoundNote). z.grant) p.1)

    goes : (o : OpeningNote) (f : Bool) → is_finalized (grant_state trail o.grant now) ≡ f → HasNote trail (Opened o)
        → option_and_then (interaction_where test now) (some_if (not f) (grant_row trail now o)) ≡ Some i → IsFound trail now i
    goes o true g h k = cc k
    goes o false g h k =
        let p = round (grant_row trail now o) (open_round now (grant_row trail now o)) k in
        record {
          opening = o;
          opened = h;
          going = g;
          row_is = p.0;
          grant_is = numbered (grant_row trail now o) (grant_row trail now o).round (is_open_round now)
              p.1;
        }

    at : (n : Note) → HasNote trail n → option_and_then (interaction_where test now) (grant_row_in trail now n) ≡ Some i → IsFound trail now i
    at (Opened o) h k = goes o (is_finalized (grant_state trail o.grant now)) refl h k
    at _ h k = cc k
