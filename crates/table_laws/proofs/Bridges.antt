-- What is looked up in the rows is what the definitions find in the notes.
use Rattle.std.proofs.Common.{ℕ, ◌≡◌, ◌+◌, Bool, true, false, cond, List, [], ◌∷◌, length, refl, sym, ◌∙◌, ap, subst, inl, inr, arith, Option, Some, None}
use Rattle.std.specs.Prelude.{◌&&◌, not, ◌==◌, is_some, option_map}
use Rattle.std.specs.Option.{option_or, option_and_then}
use Rattle.std.specs.List.{filter_map, cons_option, count_by}
use Rattle.std.proofs.lemmas.Bool.{eqb-true}
use Rattle.std.proofs.lemmas.List.{reverse-reverse, length-reverse}
use Rattle.std.proofs.lemmas.List.Sums.{sum_by-cons}
use Rattle.gnap_model.specs.Common.{Text, same_text, first_of, some_if, is_text}
use Rattle.gnap_model.specs.declared.notes.OpeningNote.{OpeningNote}
use Rattle.gnap_model.specs.declared.notes.Note.{Note}
use Rattle.gnap_model.specs.declared.notes.Note.TheVariants.{Opened, Terms, Approved, Issued, Door, Pended, DecidedAs, Finalized, Wrong, Retired}
use Rattle.gnap_model.specs.Standing.{GrantState, grant_state, is_finalized, is_approved, opening_in, door, named_in, named_grant, live_grants, is_live_opening}
use Rattle.gnap_model.specs.Standing.GrantState.{IsPending, IsApproved, IsFinalized}
use Rattle.gnap_model.specs.Actions.{or_zeros}
use Rattle.gnap_model.proofs.TrailNotes.{HasNote, opening_noted}
use Rattle.gnap_tables.specs.declared.rows.GrantRow.{GrantRow}
use Rattle.gnap_tables.specs.declared.rows.TokenRow.{TokenRow}
use Rattle.gnap_tables.specs.Rows.{grant_row, grant_row_in, grant_rows, token_row_in, token_rows}
use Rattle.gnap_tables.specs.RowSearches.{newest, row_by_number, row_by_door, approved_in, is_approved_grant}
use Rattle.table_laws.proofs.GrantsAfter.{IsNoOpening}

-- ---- look-ups in lists

pub first_of-filter_map : {A B C : Type 0} (look : B → Option C) (f : A → Option B) (xs : List A)
    → first_of look (filter_map f xs) ≡ first_of (λ x. option_and_then look (f x)) xs
first_of-filter_map look f [] = refl
first_of-filter_map {A} {B} {C} look f (x ∷ xs) = step (f x) (first_of-filter_map look f xs)
  where
    step : (o : Option B) → first_of look (filter_map f xs) ≡ first_of (λ x. option_and_then look (f x)) xs
        → first_of look (cons_option o (filter_map f xs)) ≡ option_or (option_and_then look o) (first_of (λ x. option_and_then look (f x)) xs)
    step None e = e
    step (Some y) e = ap (option_or (look y)) e

pub option_map-or : {A B : Type 0} (f : A → B) (a b : Option A) → option_map f (option_or a b) ≡ option_or (option_map f a) (option_map f b)
option_map-or f None b = refl
option_map-or f (Some x) b = refl

pub option_map-first_of : {A B C : Type 0} (f : B → C) (look : A → Option B) (xs : List A)
    → option_map f (first_of look xs) ≡ first_of (λ x. option_map f (look x)) xs
option_map-first_of f look [] = refl
option_map-first_of {A} {B} {C} f look (x ∷ xs) = option_map-or f (look x) (first_of look xs)
    ∙ ap (option_or (option_map f (look x))) (option_map-first_of f look xs)

-- what is looked up in the rows of grants, from the newest on
pub in_grants : {B : Type 0} (look : GrantRow → Option B) (trail : List Note) (now : ℕ)
    → newest look (grant_rows trail now) ≡ first_of (λ n. option_and_then look (grant_row_in trail now n)) trail
in_grants look trail now =
    ap (first_of look) (reverse-reverse (filter_map (grant_row_in trail now) trail)) ∙ first_of-filter_map look (grant_row_in trail now) trail

pub in_tokens : {B : Type 0} (look : TokenRow → Option B) (trail : List Note) (now : ℕ)
    → newest look (token_rows trail now) ≡ first_of (λ n. option_and_then look (token_row_in trail now n)) trail
in_tokens look trail now =
    ap (first_of look) (reverse-reverse (filter_map (token_row_in trail now) trail)) ∙ first_of-filter_map look (token_row_in trail now) trail

-- look-ups that agree at each opening and find nothing elsewhere
pub at_openings : {B : Type 0} (f g : Note → Option B) (ns : List Note) → ((o : OpeningNote) → HasNote ns (Opened o) → f (Opened o) ≡ g (Opened o))
    → ((n : Note) → IsNoOpening n → (f n ≡ None) × (g n ≡ None)) → first_of f ns ≡ first_of g ns
at_openings f g [] h k = refl
at_openings {B} f g (n ∷ ns) h k = ap (λ (x : Option B). option_or x (first_of f ns)) (here n (λ o e. h o (inl e)))
    ∙ ap (option_or (g n)) (at_openings f g ns (λ o i. h o (inr i)) k)
  where
    other : (m : Note) → IsNoOpening m → f m ≡ g m
    other m i = let both = k m i in both.0 ∙ sym both.1

    here : (m : Note) → ((o : OpeningNote) → Opened o ≡ m → f (Opened o) ≡ g (Opened o)) → f m ≡ g m
    here (Opened o) i = i o refl
    here (Terms w) i = other (Terms w) tt
    here (Approved g c) i = other (Approved g c) tt
    here (Issued t) i = other (Issued t) tt
    here (Door g v e) i = other (Door g v e) tt
    here (Pended r) i = other (Pended r) tt
    here (DecidedAs d) i = other (DecidedAs d) tt
    here (Finalized g) i = other (Finalized g) tt
    here (Wrong g) i = other (Wrong g) tt
    here (Retired s w) i = other (Retired s w) tt

-- ---- grants by their numbers

at_note : (trail : List Note) (now g : ℕ) → Note → Option GrantRow
at_note trail now g n = option_and_then (λ (row : GrantRow). some_if (row.number == g) row) (grant_row_in trail now n)

number_row : (trail : List Note) (now g : ℕ) (ns : List Note)
    → first_of (λ n. option_and_then (λ (row : GrantRow). some_if (row.number == g) row) (grant_row_in trail now n)) ns
    ≡ option_and_then (λ (o : OpeningNote). some_if (not (is_finalized (grant_state trail g now))) (grant_row trail now o)) (first_of (opening_in g) ns)
number_row trail now g [] = refl
number_row trail now g (Opened o ∷ ns) = at (o.grant == g) refl (is_finalized (grant_state trail o.grant now)) refl (number_row trail now g ns)
  where
    rest : Option GrantRow
    rest = first_of (λ n. option_and_then (λ (row : GrantRow). some_if (row.number == g) row) (grant_row_in trail now n)) ns

    nothing : (x : Option OpeningNote) → option_and_then (λ (o : OpeningNote). some_if false (grant_row trail now o)) x ≡ None
    nothing None = refl
    nothing (Some y) = refl

    at : (b : Bool) → (o.grant == g) ≡ b → (f : Bool) → is_finalized (grant_state trail o.grant now) ≡ f
        → rest ≡ option_and_then (λ (p : OpeningNote). some_if (not (is_finalized (grant_state trail g now))) (grant_row trail now p))
        (first_of (opening_in g) ns)
        → option_or (option_and_then (λ (row : GrantRow). some_if (row.number == g) row) (some_if (not f) (grant_row trail now o))) rest
        ≡ option_and_then (λ (p : OpeningNote). some_if (not (is_finalized (grant_state trail g now))) (grant_row trail now p))
        (option_or (some_if b o) (first_of (opening_in g) ns))
    at true e true s ih =
        let same : is_finalized (grant_state trail g now) ≡ true = subst (λ n. is_finalized (grant_state trail n now) ≡ true) (eqb-true o.grant g e) s in
        ih ∙ rw same (nothing (first_of (opening_in g) ns))
    at true e false s ih =
        let same : is_finalized (grant_state trail g now) ≡ false = subst (λ n. is_finalized (grant_state trail n now) ≡ false) (eqb-true o.grant g e) s in
        rw (e, same) refl
    at false e true s ih = ih
    at false e false s ih = rw e ih
number_row trail now g (Terms w ∷ ns) = number_row trail now g ns
number_row trail now g (Approved k c ∷ ns) = number_row trail now g ns
number_row trail now g (Issued t ∷ ns) = number_row trail now g ns
number_row trail now g (Door k v x ∷ ns) = number_row trail now g ns
number_row trail now g (Pended r ∷ ns) = number_row trail now g ns
number_row trail now g (DecidedAs d ∷ ns) = number_row trail now g ns
number_row trail now g (Finalized k ∷ ns) = number_row trail now g ns
number_row trail now g (Wrong k ∷ ns) = number_row trail now g ns
number_row trail now g (Retired s w ∷ ns) = number_row trail now g ns

-- The row with a number is that of the grant that was opened under it, where it isn't finalized.
pub number_is : (trail : List Note) (now g : ℕ)
    → row_by_number g (grant_rows trail now)
    ≡ option_and_then (λ (o : OpeningNote). some_if (not (is_finalized (grant_state trail g now))) (grant_row trail now o)) (first_of (opening_in g) trail)
number_is trail now g = in_grants (λ (row : GrantRow). some_if (row.number == g) row) trail now ∙ number_row trail now g trail

-- A grant that was opened is approved where its row says so.
pub approved_is : (trail : List Note) (now g : ℕ) → is_some (first_of (opening_in g) trail) ≡ true
    → is_approved_grant g (grant_rows trail now) ≡ is_approved (grant_state trail g now)
approved_is trail now g there = ap approved_in (number_is trail now g) ∙ at (first_of (opening_in g) trail) refl there
  where
    by : (s : GrantState) (x : GrantRow) → x.approved ≡ is_approved s → approved_in (some_if (not (is_finalized s)) x) ≡ is_approved s
    by IsFinalized x e = refl
    by IsApproved x e = e
    by (IsPending r) x e = e

    at : (x : Option OpeningNote) → first_of (opening_in g) trail ≡ x → is_some x ≡ true
        → approved_in (option_and_then (λ (o : OpeningNote). some_if (not (is_finalized (grant_state trail g now))) (grant_row trail now o)) x)
        ≡ is_approved (grant_state trail g now)
    at None e h = cc h
    at (Some o) e h = by (grant_state trail g now) (grant_row trail now o) (ap (λ n. is_approved (grant_state trail n now)) (opening_noted trail g o e).1)

-- ---- grants by their continuation values

-- Each opened grant has a continuation value.
abbrev pub HaveDoors : List Note → Type 0
HaveDoors trail = (o : OpeningNote) → HasNote trail (Opened o) → (v : Text) × (door trail o.grant ≡ Some v)

pub door_is : (trail : List Note) (now : ℕ) (value : Text) → HaveDoors trail
    → row_by_door value (grant_rows trail now) ≡ option_map (grant_row trail now) (named_grant trail now value)
door_is trail now value doors =
    in_grants look trail now
    ∙ at_openings (λ n. option_and_then look (grant_row_in trail now n)) (λ n. option_map (grant_row trail now) (named_in trail now value n)) trail one none
    ∙ sym (option_map-first_of (grant_row trail now) (named_in trail now value) trail)
  where
    look : GrantRow → Option GrantRow
    look row = some_if (same_text row.door value) row

    by : (o : OpeningNote) (f : Bool) (d : Option Text) (v : Text) → d ≡ Some v
        → option_and_then (λ (row : GrantRow). some_if (same_text (or_zeros 32 d) value) row) (some_if (not f) (grant_row trail now o))
        ≡ option_map (grant_row trail now) (some_if (is_text value d && not f) o)
    by o f None v e = cc e
    by o true (Some w) v e = no (same_text w value)
      where
        no : (b : Bool) → None ≡ option_map (grant_row trail now) (some_if (b && false) o)
        no true = refl
        no false = refl
    by o false (Some w) v e = yes (same_text w value)
      where
        yes : (b : Bool) → some_if b (grant_row trail now o) ≡ option_map (grant_row trail now) (some_if (b && true) o)
        yes true = refl
        yes false = refl

    shown : (o : OpeningNote) (f : Bool)
        → option_and_then look (some_if (not f) (grant_row trail now o))
        ≡ option_and_then (λ (row : GrantRow). some_if (same_text (or_zeros 32 (door trail o.grant)) value) row) (some_if (not f) (grant_row trail now o))
    shown o true = refl
    shown o false = refl

    one : (o : OpeningNote) → HasNote trail (Opened o)
        → option_and_then look (grant_row_in trail now (Opened o)) ≡ option_map (grant_row trail now) (named_in trail now value (Opened o))
    one o h = let d = doors o h in shown o (is_finalized (grant_state trail o.grant now))
        ∙ by o (is_finalized (grant_state trail o.grant now)) (door trail o.grant) d.0 d.1

    none : (n : Note) → IsNoOpening n
        → (option_and_then look (grant_row_in trail now n) ≡ None) × (option_map (grant_row trail now) (named_in trail now value n) ≡ None)
    none (Opened o) h = absurd h
    none _ h = (refl, refl)

-- ---- counts of grants

rows_counted : (trail : List Note) (now : ℕ) (ns : List Note) → length (filter_map (grant_row_in trail now) ns) ≡ count_by (is_live_opening trail now) ns
rows_counted trail now [] = refl
rows_counted trail now (n ∷ ns) = here n (rows_counted trail now ns) ∙ sym (sum_by-cons (λ (m : Note). cond (is_live_opening trail now m) 1 0) n ns)
  where
    live : (o : OpeningNote) (b : Bool) (xs : List GrantRow) (k : ℕ) → length xs ≡ k
        → length (cons_option (some_if b (grant_row trail now o)) xs) ≡ cond b 1 0 + k
    live o true xs k e = omega arith
    live o false xs k e = omega arith

    here : (m : Note) → length (filter_map (grant_row_in trail now) ns) ≡ count_by (is_live_opening trail now) ns
        → length (cons_option (grant_row_in trail now m) (filter_map (grant_row_in trail now) ns)) ≡ cond (is_live_opening trail now m) 1 0
        + count_by (is_live_opening trail now) ns
    here (Opened o) e = live o (not (is_finalized (grant_state trail o.grant now))) (filter_map (grant_row_in trail now) ns)
        (count_by (is_live_opening trail now) ns) e
    here _ e = omega arith

-- The rows are as many as there are live grants.
pub grants_counted : (trail : List Note) (now : ℕ) → length (grant_rows trail now) ≡ live_grants trail now
grants_counted trail now = length-reverse (filter_map (grant_row_in trail now) trail) ∙ rows_counted trail now trail
