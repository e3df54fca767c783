-- A token that isn't retired is of an approved grant.
use Rattle.std.proofs.Common.{ℕ, ◌≡◌, Bool, true, false, List, [], ◌∷◌, ◌++◌, get_or, reverse, refl, sym, subst, inl, inr}
use Rattle.std.specs.Prelude.{◌&&◌, ◌||◌, not}
use Rattle.std.specs.List.{list_any, filter_map, cons_option}
use Rattle.std.proofs.lemmas.List.Sums.{list_all-from_AllPass}
use Rattle.gnap_model.specs.Common.{some_if}
use Rattle.gnap_model.specs.declared.objects.Setup.{Setup}
use Rattle.gnap_model.specs.declared.notes.TokenNote.{TokenNote}
use Rattle.gnap_model.specs.declared.notes.Note.{Note}
use Rattle.gnap_model.specs.declared.notes.Note.TheVariants.{Opened, Terms, Approved, Issued, Door, Pended, DecidedAs, Finalized, Wrong, Retired}
use Rattle.gnap_model.specs.Notes.{Event, trail_of}
use Rattle.gnap_model.specs.Standing.{GrantState, grant_state, is_approved, is_finalized, is_managed, is_replacement, is_retirement}
use Rattle.gnap_model.specs.Standing.GrantState.{IsPending, IsApproved, IsFinalized}
use Rattle.gnap_model.specs.Answer.{supply_at}
use Rattle.gnap_model.specs.Legal.{IsLegalPast}
use Rattle.gnap_model.proofs.TrailNotes.{HasNote, round_change}
use Rattle.gnap_laws.proofs.Causes.{chosen}
use Rattle.gnap_laws.proofs.LiveTokens.{PendingRetires, pending_after}
use Rattle.gnap_laws.proofs.Sound.{past_sound}
use Rattle.gnap_tables.specs.declared.rows.TokenRow.{TokenRow}
use Rattle.gnap_tables.specs.Rows.{grant_rows, token_row, token_row_in, token_rows}
use Rattle.gnap_tables.specs.RowSearches.{is_approved_grant}
use Rattle.gnap_tables.proofs.Lists.{HasItem}
use Rattle.table_laws.proofs.Bridges.{approved_is}
use Rattle.table_laws.proofs.SerialsBelowNext.{item-reverse, item_in}
use Rattle.table_laws.proofs.SweptTables.{HaveGrants}
use Rattle.token_manager.specs.Tokens.{is_of_approved, AreOfApproved}

-- While a grant is pending, its tokens are retired.
pub past_pending : (rules : Setup) (past : List Event) → IsLegalPast rules past → PendingRetires (trail_of past)
past_pending rules [] legal = λ t r h e. absurd h
past_pending rules (e ∷ past) legal =
    let why = chosen rules past e legal.0 in
    subst (λ (ns : List Note). PendingRetires (reverse ns ++ trail_of past)) (sym why.notes)
    (pending_after (supply_at past e.moment e.draw) (trail_of past) e.call why.action (past_sound rules past legal.1) (past_pending rules past legal.1)
    why.cause)

-- a token of a grant that goes on is retired, or its grant is approved
retired_or_approved : (trail : List Note) (now : ℕ) (t : TokenNote) → PendingRetires trail → HasNote trail (Issued t) → is_managed trail now t ≡ true
    → (list_any (is_retirement t.serial) trail || is_approved (grant_state trail t.grant now)) ≡ true
retired_or_approved trail now t pending issued managed = by (grant_state trail t.grant now) refl
  where
    approved : (a : Bool) → (a || true) ≡ true
    approved true = refl
    approved false = refl

    ended : (a : Bool) → (a && false) ≡ true → ⊥
    ended true h = cc h
    ended false h = cc h

    by : (s : GrantState) → grant_state trail t.grant now ≡ s → (list_any (is_retirement t.serial) trail || is_approved s) ≡ true
    by IsApproved e = approved (list_any (is_retirement t.serial) trail)
    by (IsPending r) e = rw (pending t r issued (round_change trail t.grant now r e)) refl
    by IsFinalized e = absurd (ended (not (list_any (is_replacement t.serial) trail))
        (subst (λ (s : GrantState). (not (list_any (is_replacement t.serial) trail) && not (is_finalized s)) ≡ true) e managed))

-- the row is that of a token which can be managed
abbrev IsRowOf : List Note → ℕ → List Note → TokenRow → Type 0
IsRowOf trail now ns row = (t : TokenNote) × HasNote ns (Issued t) × (is_managed trail now t ≡ true) × (row ≡ token_row trail t)

row_managed : (trail : List Note) (now : ℕ) (ns : List Note) (row : TokenRow) → HasItem (filter_map (token_row_in trail now) ns) row → IsRowOf trail now ns row
row_managed trail now [] row h = absurd h
row_managed trail now (Issued t ∷ ns) row h = at (is_managed trail now t) refl h (row_managed trail now ns row)
  where
    at : (b : Bool) → is_managed trail now t ≡ b → HasItem (cons_option (some_if b (token_row trail t)) (filter_map (token_row_in trail now) ns)) row
        → (HasItem (filter_map (token_row_in trail now) ns) row → IsRowOf trail now ns row) → IsRowOf trail now (Issued t ∷ ns) row
    at true m (inl e) rest = (t, inl refl, m, e)
    at true m (inr k) rest = let r = rest k in (r.0, inr r.1, r.2, r.3)
    at false m k rest = let r = rest k in (r.0, inr r.1, r.2, r.3)
row_managed trail now (Opened o ∷ ns) row h = let r = row_managed trail now ns row h in (r.0, inr r.1, r.2, r.3)
row_managed trail now (Terms w ∷ ns) row h = let r = row_managed trail now ns row h in (r.0, inr r.1, r.2, r.3)
row_managed trail now (Approved g c ∷ ns) row h = let r = row_managed trail now ns row h in (r.0, inr r.1, r.2, r.3)
row_managed trail now (Door g v x ∷ ns) row h = let r = row_managed trail now ns row h in (r.0, inr r.1, r.2, r.3)
row_managed trail now (Pended x ∷ ns) row h = let r = row_managed trail now ns row h in (r.0, inr r.1, r.2, r.3)
row_managed trail now (DecidedAs d ∷ ns) row h = let r = row_managed trail now ns row h in (r.0, inr r.1, r.2, r.3)
row_managed trail now (Finalized g ∷ ns) row h = let r = row_managed trail now ns row h in (r.0, inr r.1, r.2, r.3)
row_managed trail now (Wrong g ∷ ns) row h = let r = row_managed trail now ns row h in (r.0, inr r.1, r.2, r.3)
row_managed trail now (Retired s w ∷ ns) row h = let r = row_managed trail now ns row h in (r.0, inr r.1, r.2, r.3)

pub of_approved : (trail : List Note) (now : ℕ) → PendingRetires trail → HaveGrants trail → AreOfApproved (grant_rows trail now) (token_rows trail now)
of_approved trail now pending whole = list_all-from_AllPass (is_of_approved (grant_rows trail now)) (token_rows trail now) (λ k d inside.
    let row = get_or (token_rows trail now) k d in
    let f = row_managed trail now trail row (item-reverse (filter_map (token_row_in trail now) trail) row (item_in (token_rows trail now) k d inside)) in
    let same : is_approved_grant f.0.grant (grant_rows trail now)
    ≡ is_approved (grant_state trail f.0.grant now) = approved_is trail now f.0.grant (whole f.0 f.1) in
    subst (λ (r : TokenRow). is_of_approved (grant_rows trail now) r ≡ true) (sym f.3) (rw same (retired_or_approved trail now f.0 pending f.1 f.2)))
