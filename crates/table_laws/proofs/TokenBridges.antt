-- What is looked up in the rows of tokens is what the definitions find in the notes.
use Rattle.std.proofs.Common.{ℕ, ◌≡◌, Bool, true, false, cond, List, [], ◌∷◌, map, reverse, refl, sym, ◌∙◌, ap, inl, inr, Option, Some, None}
use Rattle.std.specs.Prelude.{◌&&◌, not, ◌==◌, nat_lt, filter, option_map}
use Rattle.std.specs.Option.{option_or, option_and_then}
use Rattle.std.specs.List.{list_any, filter_map, cons_option}
use Rattle.std.proofs.lemmas.Bool.{true_from_ne_false, and_right}
use Rattle.gnap_model.specs.Common.{Text, same_text, first_of, some_if}
use Rattle.gnap_model.specs.declared.notes.OpeningNote.{OpeningNote}
use Rattle.gnap_model.specs.declared.notes.TokenNote.{TokenNote}
use Rattle.gnap_model.specs.declared.notes.Note.{Note}
use Rattle.gnap_model.specs.declared.notes.Note.TheVariants.{Opened, Terms, Approved, Issued, Door, Pended, DecidedAs, Finalized, Wrong, Retired}
use Rattle.gnap_model.specs.Standing.{GrantState, grant_state, is_finalized, is_approved, is_replacement, is_retirement, is_live, is_managed, token_in, live_token, managed_token, live_tokens, issued_where}
use Rattle.gnap_model.specs.Standing.GrantState.{IsPending, IsApproved, IsFinalized}
use Rattle.gnap_model.specs.Change.{tokens_of, other_live_tokens}
use Rattle.gnap_model.proofs.TrailNotes.{HasNote}
use Rattle.gnap_laws.proofs.AliveTokens.{not_replaced}
use Rattle.gnap_tables.specs.declared.rows.TokenRow.{TokenRow}
use Rattle.gnap_tables.specs.Rows.{grant_rows, token_row, token_row_in, token_rows}
use Rattle.gnap_tables.specs.RowSearches.{token_of, row_by_manage, is_live_row, live_row, live_rows}
use Rattle.gnap_tables.proofs.Lists.{filter_map-filter_map, filter_map-reverse, filter_is, map_is}
use Rattle.table_laws.proofs.SweptTables.{HaveGrants}
use Rattle.table_laws.proofs.Bridges.{in_tokens, option_map-first_of, approved_is}

abbrev IsNoIssue : Note → Type 0
IsNoIssue (Issued t) = ⊥
IsNoIssue _ = Unit {0}

-- look-ups that agree at each token and find nothing elsewhere
at_tokens : {B : Type 0} (f g : Note → Option B) (ns : List Note) → ((t : TokenNote) → HasNote ns (Issued t) → f (Issued t) ≡ g (Issued t))
    → ((n : Note) → IsNoIssue n → (f n ≡ None) × (g n ≡ None)) → (n : Note) → HasNote ns n → f n ≡ g n
at_tokens f g ns h k (Issued t) i = h t i
at_tokens f g ns h k (Opened o) i = let both = k (Opened o) tt in both.0 ∙ sym both.1
at_tokens f g ns h k (Terms w) i = let both = k (Terms w) tt in both.0 ∙ sym both.1
at_tokens f g ns h k (Approved x c) i = let both = k (Approved x c) tt in both.0 ∙ sym both.1
at_tokens f g ns h k (Door x v e) i = let both = k (Door x v e) tt in both.0 ∙ sym both.1
at_tokens f g ns h k (Pended r) i = let both = k (Pended r) tt in both.0 ∙ sym both.1
at_tokens f g ns h k (DecidedAs d) i = let both = k (DecidedAs d) tt in both.0 ∙ sym both.1
at_tokens f g ns h k (Finalized x) i = let both = k (Finalized x) tt in both.0 ∙ sym both.1
at_tokens f g ns h k (Wrong x) i = let both = k (Wrong x) tt in both.0 ∙ sym both.1
at_tokens f g ns h k (Retired s w) i = let both = k (Retired s w) tt in both.0 ∙ sym both.1

pub first_same : {B : Type 0} (f g : Note → Option B) (ns : List Note) → ((n : Note) → HasNote ns n → f n ≡ g n) → first_of f ns ≡ first_of g ns
first_same f g [] h = refl
first_same {B} f g (n ∷ ns) h = ap (λ (x : Option B). option_or x (first_of f ns)) (h n (inl refl))
    ∙ ap (option_or (g n)) (first_same f g ns (λ m i. h m (inr i)))

pub pass_same : {B : Type 0} (f g : Note → Option B) (ns : List Note) → ((n : Note) → HasNote ns n → f n ≡ g n) → filter_map f ns ≡ filter_map g ns
pass_same f g [] h = refl
pass_same {B} f g (n ∷ ns) h = ap (λ (x : Option B). cons_option x (filter_map f ns)) (h n (inl refl))
    ∙ ap (cons_option (g n)) (pass_same f g ns (λ m i. h m (inr i)))

nothing_elsewhere : {B : Type 0} (look : TokenRow → Option B) (f : TokenNote → B) (test : TokenNote → Bool) (trail : List Note) (now : ℕ) (n : Note)
    → IsNoIssue n
    → (option_and_then look (token_row_in trail now n) ≡ None) × (option_map f (token_in test n) ≡ None)
nothing_elsewhere look f test trail now (Issued t) h = absurd h
nothing_elsewhere look f test trail now _ h = (refl, refl)

-- The row with a management value is that of the token which the value names.
pub manage_is : (trail : List Note) (now : ℕ) (value : Text)
    → row_by_manage value (token_rows trail now) ≡ option_map (token_row trail) (managed_token trail now value)
manage_is trail now value =
    in_tokens look trail now
    ∙ first_same (λ n. option_and_then look (token_row_in trail now n)) (λ n. option_map (token_row trail) (token_in test n)) trail
    (at_tokens (λ n. option_and_then look (token_row_in trail now n)) (λ n. option_map (token_row trail) (token_in test n)) trail one
    (nothing_elsewhere look (token_row trail) test trail now))
    ∙ sym (option_map-first_of (token_row trail) (token_in test) trail)
  where
    look : TokenRow → Option TokenRow
    look row = some_if (same_text row.manage value) row

    test : TokenNote → Bool
    test token = same_text token.manage value && is_managed trail now token

    by : (t : TokenNote) (same managed : Bool)
        → option_and_then (λ (row : TokenRow). some_if same row) (some_if managed (token_row trail t))
        ≡ option_map (token_row trail) (some_if (same && managed) t)
    by t true true = refl
    by t true false = refl
    by t false true = refl
    by t false false = refl

    shown : (t : TokenNote) (managed : Bool)
        → option_and_then look (some_if managed (token_row trail t))
        ≡ option_and_then (λ (row : TokenRow). some_if (same_text t.manage value) row) (some_if managed (token_row trail t))
    shown t true = refl
    shown t false = refl

    one : (t : TokenNote) → HasNote trail (Issued t)
        → option_and_then look (token_row_in trail now (Issued t)) ≡ option_map (token_row trail) (token_in test (Issued t))
    one t h = shown t (is_managed trail now t) ∙ by t (same_text t.manage value) (is_managed trail now t)

-- ---- live tokens

-- a replaced token is retired
replaced_retired : (trail : List Note) (s : ℕ) → list_any (is_replacement s) trail ≡ true → list_any (is_retirement s) trail ≡ true
replaced_retired trail s h = true_from_ne_false (list_any (is_retirement s) trail) (λ kept. let no = sym h ∙ not_replaced s trail kept in cc no)

finalized_unapproved : (s : GrantState) → is_finalized s ≡ true → is_approved s ≡ false
finalized_unapproved IsFinalized h = refl
finalized_unapproved IsApproved h = cc h
finalized_unapproved (IsPending r) h = cc h

-- a live token can be managed, and its row is live
live_managed : (trail : List Note) (now : ℕ) (t : TokenNote) (look : Bool → Option TokenRow) → look false ≡ None
    → option_and_then (λ (row : TokenRow). look (not row.retired && nat_lt now row.until && is_approved (grant_state trail row.grant now)))
    (some_if (is_managed trail now t) (token_row trail t))
    ≡ look (is_live trail now t)
live_managed trail now t look none =
    at (list_any (is_replacement t.serial) trail) (list_any (is_retirement t.serial) trail) refl (grant_state trail t.grant now) refl
    (replaced_retired trail t.serial)
  where
    at : (rep ret : Bool) → list_any (is_retirement t.serial) trail ≡ ret → (s : GrantState) → grant_state trail t.grant now ≡ s → (rep ≡ true → ret ≡ true)
        → option_and_then (λ (row : TokenRow). look (not row.retired && nat_lt now row.until && is_approved (grant_state trail row.grant now)))
        (some_if (not rep && not (is_finalized s)) (token_row trail t))
        ≡ look (not ret && nat_lt now t.until && is_approved s)
    at true ret e s f more = let dead : ret ≡ true = more refl in rw dead (sym none)
    at false ret e IsFinalized f more = sym (ap look (and_right (not ret && nat_lt now t.until) false refl) ∙ none)
    at false ret e IsApproved f more = rw (e, f) refl
    at false ret e (IsPending r) f more = rw (e, f) refl

abbrev pub tells_live : ℕ → List Note → TokenRow → Bool
tells_live now trail row = not row.retired && nat_lt now row.until && is_approved (grant_state trail row.grant now)

pub live_told : (trail : List Note) (now : ℕ) (t : TokenNote) → HaveGrants trail → HasNote trail (Issued t)
    → is_live_row now (grant_rows trail now) (token_row trail t) ≡ tells_live now trail (token_row trail t)
live_told trail now t whole h = ap (λ b. not (list_any (is_retirement t.serial) trail) && nat_lt now t.until && b) (approved_is trail now t.grant (whole t h))

-- a look at a row that looks at whether it is live
live_look : (trail : List Note) (now : ℕ) (t : TokenNote) (look : Bool → Option TokenRow) → HaveGrants trail → HasNote trail (Issued t) → look false ≡ None
    → option_and_then (λ (row : TokenRow). look (is_live_row now (grant_rows trail now) row)) (some_if (is_managed trail now t) (token_row trail t))
    ≡ look (is_live trail now t)
live_look trail now t look whole h none = by (is_managed trail now t) ∙ live_managed trail now t look none
  where
    by : (b : Bool) → option_and_then (λ (row : TokenRow). look (is_live_row now (grant_rows trail now) row)) (some_if b (token_row trail t))
        ≡ option_and_then (λ (row : TokenRow). look (tells_live now trail row)) (some_if b (token_row trail t))
    by true = ap look (live_told trail now t whole h)
    by false = refl

-- The live row with a value is that of the live token with the value.
pub live_is : (trail : List Note) (now : ℕ) (value : Text) → HaveGrants trail
    → live_row now (grant_rows trail now) value (token_rows trail now) ≡ option_map (token_row trail) (live_token trail now value)
live_is trail now value whole =
    in_tokens look trail now
    ∙ first_same (λ n. option_and_then look (token_row_in trail now n)) (λ n. option_map (token_row trail) (token_in test n)) trail
    (at_tokens (λ n. option_and_then look (token_row_in trail now n)) (λ n. option_map (token_row trail) (token_in test n)) trail one
    (nothing_elsewhere look (token_row trail) test trail now))
    ∙ sym (option_map-first_of (token_row trail) (token_in test) trail)
  where
    look : TokenRow → Option TokenRow
    look row = some_if (same_text row.value value && is_live_row now (grant_rows trail now) row) row

    test : TokenNote → Bool
    test token = same_text token.value value && is_live trail now token

    shown : (t : TokenNote) (b : Bool) → option_and_then look (some_if b (token_row trail t))
        ≡ option_and_then (λ (row : TokenRow). some_if (same_text t.value value && is_live_row now (grant_rows trail now) row) (token_row trail t))
        (some_if b (token_row trail t))
    shown t true = refl
    shown t false = refl

    none : (a : Bool) (x : TokenRow) → some_if (a && false) x ≡ None
    none true x = refl
    none false x = refl

    last : (t : TokenNote) (b : Bool) → some_if b (token_row trail t) ≡ option_map (token_row trail) (some_if b t)
    last t true = refl
    last t false = refl

    one : (t : TokenNote) → HasNote trail (Issued t)
        → option_and_then look (token_row_in trail now (Issued t)) ≡ option_map (token_row trail) (token_in test (Issued t))
    one t h =
        shown t (is_managed trail now t)
        ∙ live_look trail now t (λ b. some_if (same_text t.value value && b) (token_row trail t)) whole h (none (same_text t.value value) (token_row trail t))
        ∙ last t (same_text t.value value && is_live trail now t)

-- ---- lists of tokens

-- the tokens of the rows that pass a test are the tokens that pass another, where the two agree at each row
tokens_where : (p : TokenRow → Bool) (test : TokenNote → Bool) (trail : List Note) (now : ℕ)
    → ((t : TokenNote) → HasNote trail (Issued t)
    → option_and_then (λ (row : TokenRow). some_if (p row) (token_of row)) (token_row_in trail now (Issued t)) ≡ some_if (test t) t)
    → map token_of (filter p (token_rows trail now)) ≡ issued_where test trail
tokens_where p test trail now h =
    ap (map token_of) (filter_is p (token_rows trail now)) ∙ map_is token_of (filter_map (λ row. some_if (p row) row) (token_rows trail now))
    ∙ filter_map-filter_map (λ row. some_if (p row) row) (λ row. Some (token_of row)) (token_rows trail now)
    ∙ filter_map-reverse (λ row. option_and_then (λ (x : TokenRow). Some (token_of x)) (some_if (p row) row)) (filter_map (token_row_in trail now) trail)
    ∙ ap reverse (
    filter_map-filter_map (token_row_in trail now) (λ row. option_and_then (λ (x : TokenRow). Some (token_of x)) (some_if (p row) row)) trail
    ∙ pass_same (λ n. option_and_then twice (token_row_in trail now n)) (token_in test) trail
    (at_tokens (λ n. option_and_then twice (token_row_in trail now n)) (token_in test) trail one none))
  where
    twice : TokenRow → Option TokenNote
    twice row = option_and_then (λ (x : TokenRow). Some (token_of x)) (some_if (p row) row)

    once : (b : Bool) (row : TokenRow) → option_and_then (λ (x : TokenRow). Some (token_of x)) (some_if b row) ≡ some_if b (token_of row)
    once true row = refl
    once false row = refl

    under : (x : Option TokenRow) → option_and_then twice x ≡ option_and_then (λ (row : TokenRow). some_if (p row) (token_of row)) x
    under None = refl
    under (Some row) = once (p row) row

    one : (t : TokenNote) → HasNote trail (Issued t) → option_and_then twice (token_row_in trail now (Issued t)) ≡ token_in test (Issued t)
    one t i = under (token_row_in trail now (Issued t)) ∙ h t i

    none : (n : Note) → IsNoIssue n → (option_and_then twice (token_row_in trail now n) ≡ None) × (token_in test n ≡ None)
    none (Issued t) i = absurd i
    none _ i = (refl, refl)

-- The tokens of the live rows are the live tokens.
pub live_tokens_are : (trail : List Note) (now : ℕ) → HaveGrants trail
    → map token_of (live_rows now (grant_rows trail now) (token_rows trail now)) ≡ live_tokens trail now
live_tokens_are trail now whole = tokens_where (is_live_row now (grant_rows trail now)) (is_live trail now) trail now one
  where
    known : (t : TokenNote) (b : Bool)
        → option_and_then (λ (row : TokenRow). some_if (is_live_row now (grant_rows trail now) row) (token_of row)) (some_if b (token_row trail t))
        ≡ option_and_then (λ (row : TokenRow). some_if (is_live_row now (grant_rows trail now) (token_row trail t)) t) (some_if b (token_row trail t))
    known t true = refl
    known t false = refl

    by : (t : TokenNote) (rep ret : Bool) (s : GrantState) → (rep ≡ true → ret ≡ true)
        → option_and_then (λ (row : TokenRow). some_if (not ret && nat_lt now t.until && is_approved s) t)
        (some_if (not rep && not (is_finalized s)) (token_row trail t))
        ≡ some_if (not ret && nat_lt now t.until && is_approved s) t
    by t true true s more = refl
    by t true false s more = let k = more refl in cc k
    by t false ret IsFinalized more = off (not ret && nat_lt now t.until)
      where
        off : (a : Bool) → None ≡ some_if (a && false) t
        off true = refl
        off false = refl
    by t false ret IsApproved more = refl
    by t false ret (IsPending r) more = refl

    one : (t : TokenNote) → HasNote trail (Issued t)
        → option_and_then (λ (row : TokenRow). some_if (is_live_row now (grant_rows trail now) row) (token_of row)) (token_row_in trail now (Issued t))
        ≡ some_if (is_live trail now t) t
    one t h =
        known t (is_managed trail now t)
        ∙ ap (λ b. option_and_then (λ (row : TokenRow). some_if b t) (some_if (is_managed trail now t) (token_row trail t))) (live_told trail now t whole h)
        ∙ by t (list_any (is_replacement t.serial) trail) (list_any (is_retirement t.serial) trail) (grant_state trail t.grant now)
        (replaced_retired trail t.serial)

-- The tokens of a grant's rows are those that a modification retires.
pub tokens_of_are : (trail : List Note) (now : ℕ) (o : OpeningNote)
    → map token_of (filter (λ (row : TokenRow). row.grant == o.grant) (token_rows trail now)) ≡ tokens_of trail now o
tokens_of_are trail now o = tokens_where (λ (row : TokenRow). row.grant == o.grant) (λ (t : TokenNote). (t.grant == o.grant) && is_managed trail now t) trail
    now (λ t h. by t (t.grant == o.grant) (is_managed trail now t) refl)
  where
    by : (t : TokenNote) (same managed : Bool) → (t.grant == o.grant) ≡ same
        → option_and_then (λ (row : TokenRow). some_if (row.grant == o.grant) (token_of row)) (some_if managed (token_row trail t))
        ≡ some_if (same && managed) t
    by t true true e = rw e refl
    by t true false e = refl
    by t false true e = rw e refl
    by t false false e = refl

map-filter : {A B : Type 0} (f : A → B) (test : B → Bool) (xs : List A) → map f (filter (λ x. test (f x)) xs) ≡ filter test (map f xs)
map-filter f test [] = refl
map-filter {A} {B} f test (x ∷ xs) = step (test (f x)) (map-filter f test xs)
  where
    step : (b : Bool) → map f (filter (λ y. test (f y)) xs) ≡ filter test (map f xs)
        → map f (cond b (x ∷ filter (λ y. test (f y)) xs) (filter (λ y. test (f y)) xs)) ≡ cond b (f x ∷ filter test (map f xs)) (filter test (map f xs))
    step true e = ap (λ (ys : List B). f x ∷ ys) e
    step false e = e

-- The tokens of the live rows of other grants are the live tokens of other grants.
pub other_tokens_are : (trail : List Note) (now : ℕ) (o : OpeningNote) → HaveGrants trail
    → map token_of (filter (λ (row : TokenRow). not (row.grant == o.grant)) (live_rows now (grant_rows trail now) (token_rows trail now)))
    ≡ other_live_tokens trail now o
other_tokens_are trail now o whole =
    map-filter token_of (λ (t : TokenNote). not (t.grant == o.grant)) (live_rows now (grant_rows trail now) (token_rows trail now))
    ∙ ap (filter (λ (t : TokenNote). not (t.grant == o.grant))) (live_tokens_are trail now whole)
