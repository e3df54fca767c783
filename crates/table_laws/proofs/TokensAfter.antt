-- What each note does to the rows of tokens.
use Rattle.std.proofs.Common.{ℕ, ◌≡◌, Bool, true, false, List, [], ◌∷◌, ◌++◌, reverse, refl, sym, ◌∙◌, ap, subst, Option, Some, None}
use Rattle.std.specs.Prelude.{◌&&◌, ◌||◌, not, ◌==◌, if◌then◌else◌, nat_le}
use Rattle.std.specs.Option.{option_or, option_and_then}
use Rattle.std.specs.List.{list_any, filter_map, cons_option}
use Rattle.std.proofs.lemmas.Bool.{eqb-true}
use Rattle.gnap_model.specs.Common.{first_of, some_if}
use Rattle.gnap_model.specs.declared.notes.OpeningNote.{OpeningNote}
use Rattle.gnap_model.specs.declared.notes.RoundNote.{RoundNote}
use Rattle.gnap_model.specs.declared.notes.TokenNote.{TokenNote}
use Rattle.gnap_model.specs.declared.notes.Why.{Why}
use Rattle.gnap_model.specs.declared.notes.Why.TheVariants.{ByRotation, ByModification, ByRevocation}
use Rattle.gnap_model.specs.declared.notes.Note.{Note}
use Rattle.gnap_model.specs.declared.notes.Note.TheVariants.{Opened, Terms, Approved, Issued, Door, Pended, DecidedAs, Finalized, Wrong, Retired}
use Rattle.gnap_model.specs.Standing.{GrantState, StateChange, grant_state, state_after, has_ended, is_finalized, is_end_of, opening_in, state_change_in, is_retirement, is_replacement}
use Rattle.gnap_model.specs.Standing.GrantState.{IsPending, IsFinalized}
use Rattle.gnap_model.specs.Standing.StateChange.{ToPending, ToApproved}
use Rattle.gnap_model.proofs.TrailNotes.{HasNote}
use Rattle.gnap_laws.proofs.AliveTokens.{not_replaced}
use Rattle.gnap_tables.specs.declared.rows.TokenRow.{TokenRow}
use Rattle.gnap_tables.specs.Rows.{token_row_in, token_rows}
use Rattle.gnap_tables.specs.Tables.{new_token, with_retirement, tokens_after}
use Rattle.table_laws.specs.AddableNotes.{IsNew, GoesOn, CanFollow}
use Rattle.gnap_tables.proofs.Lists.{filter_map-reverse, map_is, filter_is, reverse-cons, HasItem, all_kept, item_noted, parts_changed}

-- ---- which grants are finalized

abbrev state_by : ℕ → Bool → Option StateChange → GrantState
state_by now ended change = if ended then IsFinalized else state_after change now

abbrev EndsNothing : Note → Type 0
EndsNothing (Finalized k) = ⊥
EndsNothing _ = Unit {0}

opened_same : (trail : List Note) (now g : ℕ) (p : OpeningNote) (b : Bool) → (b ≡ true → IsNew trail g) → nat_le p.end now ≡ false
    → is_finalized (state_by now (list_any (is_end_of g) trail || has_ended (option_or (some_if b p) (first_of (opening_in g) trail)) now)
    (first_of (state_change_in g) trail)) ≡ is_finalized (grant_state trail g now)
opened_same trail now g p false new later = refl
opened_same trail now g p true new later = let n = new refl in rw (n.unended, later, n.change, n.opening) refl

approved_same : (now : ℕ) (ended : Bool) (change : Option StateChange) (b : Bool) → (b ≡ true → is_finalized (state_by now ended change) ≡ false)
    → is_finalized (state_by now ended (option_or (some_if b ToApproved) change)) ≡ is_finalized (state_by now ended change)
approved_same now ended change false going = refl
approved_same now true change true going = refl
approved_same now false change true going = sym (going refl)

pended_same : (now : ℕ) (ended : Bool) (change : Option StateChange) (x : RoundNote) (b : Bool) → (b ≡ true → is_finalized (state_by now ended change) ≡ false)
    → nat_le x.over now ≡ false
    → is_finalized (state_by now ended (option_or (some_if b (ToPending x)) change)) ≡ is_finalized (state_by now ended change)
pended_same now ended change x false going later = refl
pended_same now true change x true going later = refl
pended_same now false change x true going later = (let over : state_after (Some (ToPending x)) now ≡ IsPending x = rw later refl in ap is_finalized over)
    ∙ sym (going refl)

-- A note that ends no grant leaves which grants are finalized.
pub finalized_same : (n : Note) (trail : List Note) (now g : ℕ) → CanFollow now trail n → EndsNothing n
    → is_finalized (grant_state (n ∷ trail) g now) ≡ is_finalized (grant_state trail g now)
finalized_same (Opened p) trail now g can e = opened_same trail now g p (p.grant == g) (λ same. subst (IsNew trail) (eqb-true p.grant g same) can.0) can.1
finalized_same (Approved k c) trail now g can e =
    approved_same now (list_any (is_end_of g) trail || has_ended (first_of (opening_in g) trail) now) (first_of (state_change_in g) trail) (k == g)
    (λ same. subst (λ n. is_finalized (grant_state trail n now) ≡ false) (eqb-true k g same) can)
finalized_same (Pended r) trail now g can e =
    pended_same now (list_any (is_end_of g) trail || has_ended (first_of (opening_in g) trail) now) (first_of (state_change_in g) trail) r (r.grant == g)
    (λ same. subst (λ n. is_finalized (grant_state trail n now) ≡ false) (eqb-true r.grant g same) can.0) can.1
finalized_same (Finalized k) trail now g can e = absurd e
finalized_same _ trail now g can e = refl

-- ---- what a note does to one row

abbrev pub token_retired : ℕ → Why → TokenRow → Option TokenRow
token_retired serial ByRevocation row = Some (if serial == row.serial then with_retirement row else row)
token_retired serial ByRotation row = some_if (not (serial == row.serial)) row
token_retired serial ByModification row = some_if (not (serial == row.serial)) row

abbrev pub token_change : Note → TokenRow → Option TokenRow
token_change (Finalized number) row = some_if (not (number == row.grant)) row
token_change (Retired serial why) row = token_retired serial why row
token_change _ row = Some row

abbrev made : TokenNote → Bool → Bool → Bool → Option TokenRow
made t replaced finalized retired = some_if (not replaced && not finalized) (record {
  serial = t.serial;
  grant = t.grant;
  value = t.value;
  manage = t.manage;
  label = t.label;
  rights = t.rights;
  bearer = t.bearer;
  key = t.key;
  issued = t.issued;
  until = t.until;
  retired = retired;
})

kept : (row : Option TokenRow) → row ≡ option_and_then (λ (row : TokenRow). Some row) row
kept None = refl
kept (Some row) = refl

left_row : (t : TokenNote) (replaced finalized finalized' retired : Bool) → finalized' ≡ finalized
    → made t replaced finalized' retired ≡ option_and_then (λ (row : TokenRow). Some row) (made t replaced finalized retired)
left_row t replaced finalized finalized' retired e = ap (λ b. made t replaced b retired) e ∙ kept (made t replaced finalized retired)

abbrev no_row : Option TokenRow
no_row = None

row_end : (t : TokenNote) (replaced retired : Bool) (now k : ℕ) (ended past_end : Bool) (change : Option StateChange)
    → made t replaced (is_finalized (state_by now (((k == t.grant) || ended) || past_end) change)) retired
    ≡ option_and_then (λ (row : TokenRow). some_if (not (k == row.grant)) row)
    (made t replaced (is_finalized (state_by now (ended || past_end) change)) retired)
row_end t replaced retired now k ended past_end change = by (k == t.grant) replaced (is_finalized (state_by now (ended || past_end) change))
    ∙ at replaced (is_finalized (state_by now (ended || past_end) change))
  where
    by : (b r f : Bool) → made t r (is_finalized (state_by now ((b || ended) || past_end) change)) retired
        ≡ option_and_then (λ (row : TokenRow). some_if (not b) row) (made t r (is_finalized (state_by now (ended || past_end) change)) retired)
    by true true f = refl
    by true false f = gone (made t false (is_finalized (state_by now (ended || past_end) change)) retired)
      where
        gone : (row : Option TokenRow) → no_row ≡ option_and_then (λ (row : TokenRow). no_row) row
        gone None = refl
        gone (Some row) = refl
    by false r f = kept (made t r (is_finalized (state_by now (ended || past_end) change)) retired)

    at : (r f : Bool) → option_and_then (λ (row : TokenRow). some_if (not (k == t.grant)) row) (made t r f retired)
        ≡ option_and_then (λ (row : TokenRow). some_if (not (k == row.grant)) row) (made t r f retired)
    at true f = refl
    at false true = refl
    at false false = refl

row_revoked : (t : TokenNote) (s : ℕ) (r f d : Bool) → made t r f ((s == t.serial) || d) ≡ option_and_then (token_retired s ByRevocation) (made t r f d)
row_revoked t s true f d = refl
row_revoked t s false true d = refl
row_revoked t s false false d = by (s == t.serial)
  where
    by : (b : Bool) → made t false false (b || d) ≡ option_and_then (λ row. Some (if b then with_retirement row else row)) (made t false false d)
    by true = refl
    by false = refl

row_replaced : (t : TokenNote) (s : ℕ) (r f d : Bool)
    → made t ((s == t.serial) || r) f ((s == t.serial) || d) ≡ option_and_then (λ (row : TokenRow). some_if (not (s == row.serial)) row) (made t r f d)
row_replaced t s r f d = by (s == t.serial) r f ∙ at r f
  where
    by : (b r f : Bool) → made t (b || r) f (b || d) ≡ option_and_then (λ (row : TokenRow). some_if (not b) row) (made t r f d)
    by true true f = refl
    by true false true = refl
    by true false false = refl
    by false r f = kept (made t r f d)

    at : (r f : Bool) → option_and_then (λ (row : TokenRow). some_if (not (s == t.serial)) row) (made t r f d)
        ≡ option_and_then (λ (row : TokenRow). some_if (not (s == row.serial)) row) (made t r f d)
    at true f = refl
    at false true = refl
    at false false = refl

abbrev replaced_in : List Note → TokenNote → Bool
replaced_in trail t = list_any (is_replacement t.serial) trail

abbrev retired_in : List Note → TokenNote → Bool
retired_in trail t = list_any (is_retirement t.serial) trail

abbrev finalized_in : List Note → ℕ → TokenNote → Bool
finalized_in trail now t = is_finalized (grant_state trail t.grant now)

pub next_token : (n : Note) (trail : List Note) (now : ℕ) (t : TokenNote) → CanFollow now trail n
    → token_row_in (n ∷ trail) now (Issued t) ≡ option_and_then (token_change n) (token_row_in trail now (Issued t))
next_token (Opened p) trail now t can = left_row t (replaced_in trail t) (finalized_in trail now t) (finalized_in (Opened p ∷ trail) now t) (retired_in trail t)
    (finalized_same (Opened p) trail now t.grant can tt)
next_token (Approved k c) trail now t can = left_row t (replaced_in trail t) (finalized_in trail now t) (finalized_in (Approved k c ∷ trail) now t)
    (retired_in trail t) (finalized_same (Approved k c) trail now t.grant can tt)
next_token (Pended r) trail now t can = left_row t (replaced_in trail t) (finalized_in trail now t) (finalized_in (Pended r ∷ trail) now t) (retired_in trail t)
    (finalized_same (Pended r) trail now t.grant can tt)
next_token (Finalized k) trail now t can =
    row_end t (replaced_in trail t) (retired_in trail t) now k (list_any (is_end_of t.grant) trail) (has_ended (first_of (opening_in t.grant) trail) now)
    (first_of (state_change_in t.grant) trail)
next_token (Retired s ByRevocation) trail now t can = row_revoked t s (replaced_in trail t) (finalized_in trail now t) (retired_in trail t)
next_token (Retired s ByRotation) trail now t can = row_replaced t s (replaced_in trail t) (finalized_in trail now t) (retired_in trail t)
next_token (Retired s ByModification) trail now t can = row_replaced t s (replaced_in trail t) (finalized_in trail now t) (retired_in trail t)
next_token _ trail now t can = kept (token_row_in trail now (Issued t))

-- ---- all tokens

-- the rows later, or after more notes, are those of now with each row changed or taken out
pub tokens_changed : (f : TokenRow → Option TokenRow) (trail after : List Note) (now later : ℕ)
    → ((t : TokenNote) → HasNote trail (Issued t) → token_row_in after later (Issued t) ≡ option_and_then f (token_row_in trail now (Issued t)))
    → reverse (filter_map (token_row_in after later) trail) ≡ filter_map f (token_rows trail now)
tokens_changed f trail after now later h =
    ap reverse (parts_changed f (token_row_in trail now) (token_row_in after later) trail each)
    ∙ sym (filter_map-reverse f (filter_map (token_row_in trail now) trail))
  where
    each : (n : Note) → HasItem trail n → token_row_in after later n ≡ option_and_then f (token_row_in trail now n)
    each (Issued t) i = h t (item_noted trail (Issued t) i)
    each _ i = refl

-- the row of a token that was just issued
issued_row : (trail : List Note) (now : ℕ) (t : TokenNote) → GoesOn trail now t.grant → list_any (is_retirement t.serial) trail ≡ false
    → token_row_in (Issued t ∷ trail) now (Issued t) ≡ Some (new_token t)
issued_row trail now t going fresh = rw (not_replaced t.serial trail fresh, going, fresh) refl

-- What a note does to the tokens.
pub tokens_next : (n : Note) (trail : List Note) (now : ℕ) → CanFollow now trail n → token_rows (n ∷ trail) now ≡ tokens_after n (token_rows trail now)
tokens_next (Issued t) trail now can =
    let old : reverse (filter_map (token_row_in (Issued t ∷ trail) now) trail) ≡ token_rows trail now =
    tokens_changed (λ row. Some row) trail (Issued t ∷ trail) now now (λ u h. next_token (Issued t) trail now u can) ∙ all_kept (token_rows trail now) in
    ap (λ (x : Option TokenRow). reverse (cons_option x (filter_map (token_row_in (Issued t ∷ trail) now) trail))) (issued_row trail now t can.0 can.1)
    ∙ reverse-cons (new_token t) (filter_map (token_row_in (Issued t ∷ trail) now) trail)
    ∙ ap (λ (rows : List TokenRow). rows ++ new_token t ∷ []) old
tokens_next (Opened p) trail now can = tokens_changed (token_change (Opened p)) trail (Opened p ∷ trail) now now (λ t h. next_token (Opened p) trail now t can)
    ∙ all_kept (token_rows trail now)
tokens_next (Terms w) trail now can = tokens_changed (token_change (Terms w)) trail (Terms w ∷ trail) now now (λ t h. next_token (Terms w) trail now t can)
    ∙ all_kept (token_rows trail now)
tokens_next (Approved k c) trail now can = tokens_changed (token_change (Approved k c)) trail (Approved k c ∷ trail) now now
    (λ t h. next_token (Approved k c) trail now t can) ∙ all_kept (token_rows trail now)
tokens_next (Door k v x) trail now can = tokens_changed (token_change (Door k v x)) trail (Door k v x ∷ trail) now now
    (λ t h. next_token (Door k v x) trail now t can) ∙ all_kept (token_rows trail now)
tokens_next (Pended r) trail now can = tokens_changed (token_change (Pended r)) trail (Pended r ∷ trail) now now (λ t h. next_token (Pended r) trail now t can)
    ∙ all_kept (token_rows trail now)
tokens_next (DecidedAs d) trail now can = tokens_changed (token_change (DecidedAs d)) trail (DecidedAs d ∷ trail) now now
    (λ t h. next_token (DecidedAs d) trail now t can) ∙ all_kept (token_rows trail now)
tokens_next (Wrong k) trail now can = tokens_changed (token_change (Wrong k)) trail (Wrong k ∷ trail) now now (λ t h. next_token (Wrong k) trail now t can)
    ∙ all_kept (token_rows trail now)
tokens_next (Finalized k) trail now can = tokens_changed (token_change (Finalized k)) trail (Finalized k ∷ trail) now now
    (λ t h. next_token (Finalized k) trail now t can) ∙ sym (filter_is _ (token_rows trail now))
tokens_next (Retired s ByRevocation) trail now can = tokens_changed (token_change (Retired s ByRevocation)) trail (Retired s ByRevocation ∷ trail) now now
    (λ t h. next_token (Retired s ByRevocation) trail now t can) ∙ sym (map_is _ (token_rows trail now))
tokens_next (Retired s ByRotation) trail now can = tokens_changed (token_change (Retired s ByRotation)) trail (Retired s ByRotation ∷ trail) now now
    (λ t h. next_token (Retired s ByRotation) trail now t can) ∙ sym (filter_is _ (token_rows trail now))
tokens_next (Retired s ByModification) trail now can = tokens_changed (token_change (Retired s ByModification)) trail (Retired s ByModification ∷ trail) now now
    (λ t h. next_token (Retired s ByModification) trail now t can) ∙ sym (filter_is _ (token_rows trail now))
