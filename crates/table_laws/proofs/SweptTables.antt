-- What time does to the tables.
use Rattle.std.proofs.Common.{ℕ, ◌≡◌, ◌≤◌, Bool, true, false, List, reverse, refl, sym, ◌∙◌, ap, arith, Option, Some, None}
use Rattle.std.specs.Prelude.{◌&&◌, ◌||◌, not, ◌==◌, if◌then◌else◌, nat_le, is_some}
use Rattle.std.specs.Option.{option_and_then}
use Rattle.std.specs.List.{list_any}
use Rattle.std.proofs.lemmas.Bool.Decides.{nat_tests}
use Rattle.gnap_model.specs.Common.{first_of, some_if}
use Rattle.gnap_model.specs.declared.notes.OpeningNote.{OpeningNote}
use Rattle.gnap_model.specs.declared.notes.RoundNote.{RoundNote}
use Rattle.gnap_model.specs.declared.notes.TokenNote.{TokenNote}
use Rattle.gnap_model.specs.declared.notes.Note.{Note}
use Rattle.gnap_model.specs.declared.notes.Note.TheVariants.{Opened, Issued}
use Rattle.gnap_model.specs.Standing.{GrantState, StateChange, grant_state, state_after, is_finalized, is_end_of, opening_in, state_change_in, is_replacement, terms_of}
use Rattle.gnap_model.specs.Standing.GrantState.{IsPending, IsApproved, IsFinalized}
use Rattle.gnap_model.specs.Standing.StateChange.{ToPending, ToApproved}
use Rattle.gnap_model.proofs.LookUps.{any-reverse}
use Rattle.gnap_model.proofs.TrailNotes.{HasNote}
use Rattle.gnap_laws.proofs.States.{finalized_later}
use Rattle.gnap_tables.specs.declared.rows.GrantRow.{GrantRow}
use Rattle.gnap_tables.specs.declared.rows.TokenRow.{TokenRow}
use Rattle.gnap_tables.specs.Rows.{row_at, grant_row, grant_row_in, grant_rows, token_row, token_row_in, token_rows}
use Rattle.gnap_tables.specs.Tables.{tables_of, is_row_over, sweep_grants, has_grant, sweep_tokens, sweep}
use Rattle.gnap_tables.proofs.Lists.{any_found, filter_is}
use Rattle.table_laws.proofs.GrantsAfter.{grants_changed}
use Rattle.table_laws.proofs.TokensAfter.{tokens_changed}
use Rattle.table_laws.proofs.Bridges.{number_is}

-- Each grant was opened once.
abbrev pub IsOpenedOnce : List Note → Type 0
IsOpenedOnce trail = (o : OpeningNote) → HasNote trail (Opened o) → first_of (opening_in o.grant) trail ≡ Some o

-- Each token's grant was opened.
abbrev pub HaveGrants : List Note → Type 0
HaveGrants trail = (t : TokenNote) → HasNote trail (Issued t) → is_some (first_of (opening_in t.grant) trail) ≡ true

later_too : (a now later : ℕ) → now ≤ later → nat_le a now ≡ true → nat_le a later ≡ true
later_too a now later h e = grind (arith, nat_tests)

-- the state of a grant that ends at that moment, at another moment
abbrev state_when : Bool → ℕ → Option StateChange → ℕ → GrantState
state_when ended end change now = if ended || nat_le end now then IsFinalized else state_after change now

abbrev row_when : List Note → OpeningNote → GrantState → Option GrantRow
row_when trail o s = some_if (not (is_finalized s)) (row_at trail o (terms_of trail o.grant) s)

abbrev stays : ℕ → GrantRow → Option GrantRow
stays later row = some_if (not (is_row_over later row)) row

row_later : (trail : List Note) (o : OpeningNote) (ended : Bool) (change : Option StateChange) (now later : ℕ) → now ≤ later
    → row_when trail o (state_when ended o.end change later) ≡ option_and_then (stays later) (row_when trail o (state_when ended o.end change now))
row_later trail o true change now later le = refl
row_later trail o false change now later le = at (nat_le o.end now) (nat_le o.end later) (later_too o.end now later le) refl
  where
    approved : (b : Bool) → nat_le o.end later ≡ b
        → row_when trail o (if b then IsFinalized else IsApproved) ≡ option_and_then (stays later) (row_when trail o IsApproved)
    approved true e = rw e refl
    approved false e = rw e refl

    pending : (r : RoundNote) (b c d : Bool) → nat_le o.end later ≡ b → nat_le r.over later ≡ d → (c ≡ true → d ≡ true)
        → row_when trail o (if b then IsFinalized else if d then IsFinalized else IsPending r)
        ≡ option_and_then (stays later) (row_when trail o (if c then IsFinalized else IsPending r))
    pending r true true d e f more = refl
    pending r false true true e f more = refl
    pending r false true false e f more = let k = more refl in cc k
    pending r true false d e f more = rw e refl
    pending r false false true e f more = rw (e, f) refl
    pending r false false false e f more = rw (e, f) refl

    by : (change : Option StateChange) (b : Bool) → nat_le o.end later ≡ b
        → row_when trail o (if b then IsFinalized else state_after change later) ≡ option_and_then (stays later) (row_when trail o (state_after change now))
    by None b e = approved b e
    by (Some ToApproved) b e = approved b e
    by (Some (ToPending r)) b e = pending r b (nat_le r.over now) (nat_le r.over later) e refl (later_too r.over now later le)

    at : (a b : Bool) → (a ≡ true → b ≡ true) → nat_le o.end later ≡ b
        → row_when trail o (if b then IsFinalized else state_after change later)
        ≡ option_and_then (stays later) (row_when trail o (if a then IsFinalized else state_after change now))
    at true true more e = refl
    at true false more e = let k = more refl in cc k
    at false b more e = by change b e

-- Time takes out the grants whose end or whose round's end has come.
pub grants_swept : (trail : List Note) (now later : ℕ) → IsOpenedOnce trail → now ≤ later → grant_rows trail later ≡ sweep_grants later (grant_rows trail now)
grants_swept trail now later once le =
    grants_changed (stays later) trail trail now later one ∙ sym (filter_is (λ (row : GrantRow). not (is_row_over later row)) (grant_rows trail now))
  where
    state : (o : OpeningNote) (n : ℕ) → HasNote trail (Opened o)
        → grant_state trail o.grant n ≡ state_when (list_any (is_end_of o.grant) trail) o.end (first_of (state_change_in o.grant) trail) n
    state o n h = rw (once o h) refl

    one : (o : OpeningNote) → HasNote trail (Opened o) → grant_row_in trail later (Opened o) ≡ option_and_then (stays later) (grant_row_in trail now (Opened o))
    one o h =
        ap (row_when trail o) (state o later h)
        ∙ row_later trail o (list_any (is_end_of o.grant) trail) (first_of (state_change_in o.grant) trail) now later le
        ∙ ap (λ (s : GrantState). option_and_then (stays later) (row_when trail o s)) (sym (state o now h))

-- ---- tokens

-- An opened grant has a row where it isn't finalized.
pub has_row : (trail : List Note) (now g : ℕ) → is_some (first_of (opening_in g) trail) ≡ true
    → has_grant g (grant_rows trail now) ≡ not (is_finalized (grant_state trail g now))
has_row trail now g h =
    sym (any-reverse (λ (row : GrantRow). row.number == g) (grant_rows trail now))
    ∙ any_found (λ (row : GrantRow). row.number == g) (reverse (grant_rows trail now))
    ∙ ap (λ (row : Option GrantRow). is_some row) (number_is trail now g) ∙ found (is_finalized (grant_state trail g now)) (first_of (opening_in g) trail) h
  where
    found : (f : Bool) (o : Option OpeningNote) → is_some o ≡ true
        → is_some (option_and_then (λ (p : OpeningNote). some_if (not f) (grant_row trail now p)) o) ≡ not f
    found f None e = cc e
    found true (Some p) e = refl
    found false (Some p) e = refl

-- And with them their tokens.
pub tokens_swept : (trail : List Note) (now later : ℕ) → HaveGrants trail → now ≤ later
    → token_rows trail later ≡ sweep_tokens (grant_rows trail later) (token_rows trail now)
tokens_swept trail now later whole le =
    tokens_changed (λ (row : TokenRow). some_if (has_grant row.grant (grant_rows trail later)) row) trail trail now later one
    ∙ sym (filter_is (λ (row : TokenRow). has_grant row.grant (grant_rows trail later)) (token_rows trail now))
  where
    by : (t : TokenNote) (r a b : Bool) (row : TokenRow) → (a ≡ true → b ≡ true)
        → some_if (not r && not b) row ≡ option_and_then (λ (x : TokenRow). some_if (not b) row) (some_if (not r && not a) row)
    by t true a b row more = refl
    by t false true true row more = refl
    by t false true false row more = let k = more refl in cc k
    by t false false b row more = refl

    shown : (t : TokenNote) (r a b c : Bool) → c ≡ not b → (a ≡ true → b ≡ true) → has_grant t.grant (grant_rows trail later) ≡ c
        → some_if (not r && not b) (token_row trail t)
        ≡ option_and_then (λ (row : TokenRow). some_if (has_grant row.grant (grant_rows trail later)) row) (some_if (not r && not a) (token_row trail t))
    shown t true a b c e more h = refl
    shown t false true true c e more h = refl
    shown t false true false c e more h = let k = more refl in cc k
    shown t false false true c e more h = rw (h, e) refl
    shown t false false false c e more h = rw (h, e) refl

    one : (t : TokenNote) → HasNote trail (Issued t)
        → token_row_in trail later (Issued t)
        ≡ option_and_then (λ (row : TokenRow). some_if (has_grant row.grant (grant_rows trail later)) row) (token_row_in trail now (Issued t))
    one t h = shown t (list_any (is_replacement t.serial) trail) (is_finalized (grant_state trail t.grant now)) (is_finalized (grant_state trail t.grant later))
        _ refl
        (finalized_later trail t.grant now later le) (has_row trail later t.grant (whole t h))

-- Time sweeps the tables.
pub tables_swept : (trail : List Note) (now later : ℕ) → IsOpenedOnce trail → HaveGrants trail → now ≤ later
    → tables_of trail later ≡ sweep later (tables_of trail now)
tables_swept trail now later once whole le =
    ap (λ (rows : List TokenRow). record { grants = grant_rows trail later; tokens = rows }) (tokens_swept trail now later whole le)
    ∙ ap (λ (rows : List GrantRow). record { grants = rows; tokens = sweep_tokens rows (token_rows trail now) }) (grants_swept trail now later once le)
