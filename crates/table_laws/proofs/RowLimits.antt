-- The rows keep the limits.
use Rattle.std.proofs.Common.{ℕ, ◌≡◌, ◌<◌, ◌≤◌, Bool, true, false, List, [], ◌∷◌, length, get_or, reverse, refl, sym, ap, subst, inl, inr, arith}
use Rattle.std.specs.Prelude.{IfSome, not}
use Rattle.std.specs.List.{All, filter_map, cons_option}
use Rattle.std.proofs.lemmas.List.{length-map}
use Rattle.histories.specs.History.{Legal, notes_of, now as latest_of}
use Rattle.gnap_model.specs.Common.{some_if}
use Rattle.gnap_model.specs.Limits.{wrong_limit}
use Rattle.gnap_model.specs.declared.objects.Setup.{Setup}
use Rattle.gnap_model.specs.declared.notes.OpeningNote.{OpeningNote}
use Rattle.gnap_model.specs.declared.notes.RoundNote.{RoundNote}
use Rattle.gnap_model.specs.declared.notes.TokenNote.{TokenNote}
use Rattle.gnap_model.specs.declared.notes.Note.{Note}
use Rattle.gnap_model.specs.declared.notes.Note.TheVariants.{Opened, Terms, Approved, Issued, Door, Pended, DecidedAs, Finalized, Wrong, Retired}
use Rattle.gnap_model.specs.Notes.{Event}
use Rattle.gnap_model.specs.Standing.{GrantState, grant_state, is_finalized, wrongs_of}
use Rattle.gnap_model.specs.Standing.GrantState.{IsPending, IsApproved, IsFinalized}
use Rattle.gnap_model.specs.Legal.{grant_law, HasFewAsks}
use Rattle.gnap_laws.proofs.WithinLimits.{history_within}
use Rattle.gnap_laws.proofs.WrongReferences.{history_few}
use Rattle.gnap_tables.specs.declared.rows.Round.{Round}
use Rattle.gnap_tables.specs.declared.rows.GrantRow.{GrantRow}
use Rattle.gnap_tables.specs.declared.rows.TokenRow.{TokenRow}
use Rattle.gnap_tables.specs.Rows.{round_in, grant_row, grant_row_in, grant_rows, token_rows}
use Rattle.gnap_tables.specs.RowSearches.{live_rows, token_of}
use Rattle.gnap_tables.specs.StandsFor.{kept_of}
use Rattle.table_laws.specs.Laws.{HasFewRows, HasFewWrongs}
use Rattle.gnap_tables.proofs.Lists.{HasItem}
use Rattle.table_laws.proofs.Bridges.{grants_counted}
use Rattle.table_laws.proofs.TokenBridges.{live_tokens_are}
use Rattle.table_laws.proofs.TablesThroughCalls.{legal_notes}
use Rattle.table_laws.proofs.SerialsBelowNext.{item-reverse, item_in}

-- a row is that of an opened grant
row_opened : (trail : List Note) (now : ℕ) (ns : List Note) (row : GrantRow) → HasItem (filter_map (grant_row_in trail now) ns) row
    → (o : OpeningNote) × (row ≡ grant_row trail now o)
row_opened trail now [] row h = absurd h
row_opened trail now (Opened o ∷ ns) row h = at (not (is_finalized (grant_state trail o.grant now))) h (row_opened trail now ns row)
  where
    at : (b : Bool) → HasItem (cons_option (some_if b (grant_row trail now o)) (filter_map (grant_row_in trail now) ns)) row
        → (HasItem (filter_map (grant_row_in trail now) ns) row → (p : OpeningNote) × (row ≡ grant_row trail now p))
        → (p : OpeningNote) × (row ≡ grant_row trail now p)
    at true (inl e) rest = (o, e)
    at true (inr k) rest = rest k
    at false k rest = rest k
row_opened trail now (Terms w ∷ ns) row h = row_opened trail now ns row h
row_opened trail now (Approved g c ∷ ns) row h = row_opened trail now ns row h
row_opened trail now (Issued t ∷ ns) row h = row_opened trail now ns row h
row_opened trail now (Door g v x ∷ ns) row h = row_opened trail now ns row h
row_opened trail now (Pended r ∷ ns) row h = row_opened trail now ns row h
row_opened trail now (DecidedAs d ∷ ns) row h = row_opened trail now ns row h
row_opened trail now (Finalized g ∷ ns) row h = row_opened trail now ns row h
row_opened trail now (Wrong g ∷ ns) row h = row_opened trail now ns row h
row_opened trail now (Retired s w ∷ ns) row h = row_opened trail now ns row h

-- the wrong references of the row's round are those of the grant's
round_few : (trail : List Note) (g : ℕ) (s : GrantState) → ((r : RoundNote) → s ≡ IsPending r → wrongs_of trail g < wrong_limit)
    → IfSome (round_in trail g s) (λ (round : Round). round.wrongs < wrong_limit)
round_few trail g (IsPending r) few = few r refl
round_few trail g IsApproved few = tt
round_few trail g IsFinalized few = tt

wrongs_few : (trail : List Note) (now : ℕ) → ((g : ℕ) (r : RoundNote) → grant_state trail g now ≡ IsPending r → wrongs_of trail g < wrong_limit)
    → All HasFewWrongs (grant_rows trail now)
wrongs_few trail now few k d inside =
    let row = get_or (grant_rows trail now) k d in
    let found = row_opened trail now trail row (item-reverse (filter_map (grant_row_in trail now) trail) row (item_in (grant_rows trail now) k d inside)) in
    subst HasFewWrongs (sym found.1) (round_few trail found.0.grant (grant_state trail found.0.grant now) (few found.0.grant))

pub rows_within : (rules : Setup) (h : List Event) (now : ℕ) → Legal grant_law rules h → latest_of h 0 ≤ now → HasFewRows (kept_of (notes_of h) now).tables now
rows_within rules h now legal le =
    let trail : List Note = reverse (notes_of h) in
    let limits = history_within rules h now legal le in
    let grants = grants_counted trail now in
    let whole = (legal_notes HasFewAsks rules h (λ call fits. fits) legal).whole in
    let rows : List TokenRow = live_rows now (grant_rows trail now) (token_rows trail now) in
    let tokens = ap (length {A = TokenNote}) (live_tokens_are trail now whole.grants) in
    let mapped = length-map rows token_of in
    let few_grants = limits.grants in
    let few_tokens = limits.tokens in
    record {
      grants = omega arith;
      tokens = omega arith;
      wrongs = wrongs_few trail now (λ g r pending. history_few rules h g now r legal pending);
    }
