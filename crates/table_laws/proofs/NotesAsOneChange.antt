-- Where several notes come to one change of the tables.
use Rattle.std.proofs.Common.{ℕ, ◌≡◌, Bool, true, false, List, [], ◌∷◌, ◌++◌, map, refl, sym, ◌∙◌, ap, append_assoc, append-nil}
use Rattle.std.specs.Prelude.{◌==◌, if◌then◌else◌}
use Rattle.std.specs.List.{list_any}
use Rattle.std.proofs.lemmas.Bool.Decides.{Decides-eqb, nat_tests}
use Rattle.std.proofs.Common.{cond, inl, inr, arith}
use Rattle.std.specs.Prelude.{◌&&◌, not, filter}
use Rattle.std.proofs.lemmas.Bool.{eqb-true, or_parts, and_right}
use Rattle.gnap_model.specs.Actions.{retire}
use Rattle.gnap_tables.specs.RowSearches.{token_of}
use Rattle.gnap_tables.proofs.Lists.{HasItem}
use Rattle.gnap_model.specs.Common.{Text}
use Rattle.gnap_model.specs.declared.rights.Right.{Right}
use Rattle.gnap_model.specs.declared.notes.OpeningNote.{OpeningNote}
use Rattle.gnap_model.specs.declared.notes.TermsNote.{TermsNote}
use Rattle.gnap_model.specs.declared.notes.RoundNote.{RoundNote}
use Rattle.gnap_model.specs.declared.notes.TokenNote.{TokenNote}
use Rattle.gnap_model.specs.declared.notes.Note.{Note}
use Rattle.gnap_model.specs.declared.notes.Note.TheVariants.{Opened, Terms, Approved, Issued, Door, Pended}
use Rattle.gnap_tables.specs.declared.rows.GrantRow.{GrantRow}
use Rattle.gnap_tables.specs.declared.rows.TokenRow.{TokenRow}
use Rattle.gnap_tables.specs.Tables.{Tables, new_grant, new_token, with_terms, with_approval, with_round, with_door, change_grant, drop_tokens_of, after_notes}

abbrev pub of_rows : List GrantRow → List TokenRow → Tables
of_rows grants tokens = record { grants = grants; tokens = tokens }

-- no row has the number
abbrev pub IsFree : ℕ → List GrantRow → Type 0
IsFree number rows = list_any (λ (row : GrantRow). number == row.number) rows ≡ false

free_rest : (number : ℕ) (row : GrantRow) (rows : List GrantRow) → IsFree number (row ∷ rows) → ((number == row.number) ≡ false) × IsFree number rows
free_rest number row rows h = or_parts (number == row.number) (list_any (λ (r : GrantRow). number == r.number) rows) h

-- a change of a row that was just appended
pub change_last : (number : ℕ) (change : GrantRow → GrantRow) (rows : List GrantRow) (row : GrantRow) → IsFree number rows → row.number ≡ number
    → change_grant number change (rows ++ row ∷ []) ≡ rows ++ change row ∷ []
change_last number change [] row free is =
    let same : (number == row.number) ≡ true = (Decides-eqb number row.number).1 (sym is) in rw same refl
change_last number change (r ∷ rs) row free is =
    let f = free_rest number r rs free in
    let head : (if number == r.number then change r else r) ≡ r = rw f.0 refl in
    ap (λ (x : GrantRow). x ∷ change_grant number change (rs ++ row ∷ [])) head ∙ ap (λ (xs : List GrantRow). r ∷ xs) (change_last number change rs row f.1 is)

-- tokens that are issued one after another
pub all_issued : (ts : List TokenNote) (rest : List Note) (grants : List GrantRow) (tokens : List TokenRow)
    → after_notes (map Issued ts ++ rest) (of_rows grants tokens) ≡ after_notes rest (of_rows grants (tokens ++ map new_token ts))
all_issued [] rest grants tokens = ap (λ (xs : List TokenRow). after_notes rest (of_rows grants xs)) (sym (append-nil tokens))
all_issued (t ∷ ts) rest grants tokens =
    all_issued ts rest grants (tokens ++ new_token t ∷ [])
    ∙ ap (λ (xs : List TokenRow). after_notes rest (of_rows grants xs)) (append_assoc tokens (new_token t ∷ []) (map new_token ts))

-- A grant that is opened and granted at once is one new row, and its tokens are appended.
pub opened_at_once : (o : OpeningNote) (w : TermsNote) (ts : List TokenNote) (v : Text) (e : ℕ) (grants : List GrantRow) (tokens : List TokenRow)
    → IsFree o.grant grants → w.grant ≡ o.grant
    → after_notes (Opened o ∷ Terms w ∷ Approved o.grant [] ∷ (map Issued ts ++ Door o.grant v e ∷ [])) (of_rows grants tokens)
    ≡ of_rows (grants ++ with_door v e (with_approval [] (with_terms w (new_grant o))) ∷ []) (tokens ++ map new_token ts)
opened_at_once o w ts v e grants tokens free same =
    let g = o.grant in
    let rest : List Note = map Issued ts ++ Door g v e ∷ [] in
    let terms : change_grant w.grant (with_terms w) (grants ++ new_grant o ∷ []) ≡ grants ++ with_terms w (new_grant o) ∷ [] =
    ap (λ n. change_grant n (with_terms w) (grants ++ new_grant o ∷ [])) same ∙ change_last g (with_terms w) grants (new_grant o) free refl in
    ap (λ (xs : List GrantRow). after_notes rest (of_rows (change_grant g (with_approval []) xs) tokens)) terms
    ∙ ap (λ (xs : List GrantRow). after_notes rest (of_rows xs tokens)) (change_last g (with_approval []) grants (with_terms w (new_grant o)) free refl)
    ∙ all_issued ts (Door g v e ∷ []) (grants ++ with_approval [] (with_terms w (new_grant o)) ∷ []) tokens
    ∙ ap (λ (xs : List GrantRow). of_rows xs (tokens ++ map new_token ts))
    (change_last g (with_door v e) grants (with_approval [] (with_terms w (new_grant o))) free refl)

-- A grant that is opened and waits for the user is one new row in a round.
pub opened_asking : (o : OpeningNote) (w : TermsNote) (r : RoundNote) (v : Text) (e : ℕ) (grants : List GrantRow) (tokens : List TokenRow)
    → IsFree o.grant grants → w.grant ≡ o.grant → r.grant ≡ o.grant
    → after_notes (Opened o ∷ Terms w ∷ Door o.grant v e ∷ Pended r ∷ []) (of_rows grants tokens)
    ≡ of_rows (grants ++ with_round r (with_door v e (with_terms w (new_grant o))) ∷ []) tokens
opened_asking o w r v e grants tokens free same_terms same_round =
    let g = o.grant in
    let terms : change_grant w.grant (with_terms w) (grants ++ new_grant o ∷ []) ≡ grants ++ with_terms w (new_grant o) ∷ [] =
    ap (λ n. change_grant n (with_terms w) (grants ++ new_grant o ∷ [])) same_terms ∙ change_last g (with_terms w) grants (new_grant o) free refl in
    ap (λ (xs : List GrantRow). of_rows (change_grant r.grant (with_round r) (change_grant g (with_door v e) xs)) tokens) terms
    ∙ ap (λ (xs : List GrantRow). of_rows (change_grant r.grant (with_round r) xs) tokens)
    (change_last g (with_door v e) grants (with_terms w (new_grant o)) free refl)
    ∙ ap (λ n. of_rows (change_grant n (with_round r) (grants ++ with_door v e (with_terms w (new_grant o)) ∷ [])) tokens) same_round
    ∙ ap (λ (xs : List GrantRow). of_rows xs tokens) (change_last g (with_round r) grants (with_door v e (with_terms w (new_grant o))) free refl)

-- changes of one row, one after another
pub change_twice : (number : ℕ) (f h : GrantRow → GrantRow) (rows : List GrantRow) → ((row : GrantRow) → (f row).number ≡ row.number)
    → change_grant number h (change_grant number f rows) ≡ change_grant number (λ row. h (f row)) rows
change_twice number f h [] keeps = refl
change_twice number f h (r ∷ rs) keeps =
    ap (λ (x : GrantRow). x ∷ change_grant number h (change_grant number f rs)) (at (number == r.number) refl)
    ∙ ap (λ (xs : List GrantRow). (if number == r.number then h (f r) else r) ∷ xs) (change_twice number f h rs keeps)
  where
    at : (b : Bool) → (number == r.number) ≡ b
        → (if number == (if b then f r else r).number then h (if b then f r else r) else (if b then f r else r)) ≡ (if b then h (f r) else r)
    at true e = let same : (number == (f r).number) ≡ true = ap (λ n. number == n) (keeps r) ∙ e in rw same refl
    at false e = rw e refl

-- A decision that is collected changes one row and appends the tokens.
pub collected : (g : ℕ) (consent : List Right) (ts : List TokenNote) (v : Text) (e : ℕ) (grants : List GrantRow) (tokens : List TokenRow)
    → after_notes (Approved g consent ∷ (map Issued ts ++ Door g v e ∷ [])) (of_rows grants tokens)
    ≡ of_rows (change_grant g (λ row. with_door v e (with_approval consent row)) grants) (tokens ++ map new_token ts)
collected g consent ts v e grants tokens =
    all_issued ts (Door g v e ∷ []) (change_grant g (with_approval consent) grants) tokens
    ∙ ap (λ (xs : List GrantRow). of_rows xs (tokens ++ map new_token ts)) (change_twice g (with_approval consent) (with_door v e) grants (λ row. refl))

-- ---- a modification retires all rows of a grant

-- rows that pass both tests, one after the other
filter-filter : {A : Type 0} (p q : A → Bool) (xs : List A) → filter q (filter p xs) ≡ filter (λ x. p x && q x) xs
filter-filter p q [] = refl
filter-filter {A} p q (x ∷ xs) = step (p x) (filter-filter p q xs)
  where
    step : (b : Bool) → filter q (filter p xs) ≡ filter (λ y. p y && q y) xs
        → filter q (cond b (x ∷ filter p xs) (filter p xs)) ≡ cond (b && q x) (x ∷ filter (λ y. p y && q y) xs) (filter (λ y. p y && q y) xs)
    step true e = ap (λ (ys : List A). cond (q x) (x ∷ ys) ys) e
    step false e = e

-- the row has none of the serials of the tokens
abbrev pub is_apart : List TokenNote → TokenRow → Bool
is_apart [] row = true
is_apart (t ∷ ts) row = not (t.serial == row.serial) && is_apart ts row

all_true : (rows : List TokenRow) → filter (λ (row : TokenRow). true) rows ≡ rows
all_true [] = refl
all_true (r ∷ rs) = ap (λ (xs : List TokenRow). r ∷ xs) (all_true rs)

pub all_retired : (ts : List TokenNote) (rest : List Note) (grants : List GrantRow) (tokens : List TokenRow)
    → after_notes (retire ts ++ rest) (of_rows grants tokens) ≡ after_notes rest (of_rows grants (filter (is_apart ts) tokens))
all_retired [] rest grants tokens = ap (λ (xs : List TokenRow). after_notes rest (of_rows grants xs)) (sym (all_true tokens))
all_retired (t ∷ ts) rest grants tokens =
    all_retired ts rest grants (filter (λ (row : TokenRow). not (t.serial == row.serial)) tokens)
    ∙ ap (λ (xs : List TokenRow). after_notes rest (of_rows grants xs)) (filter-filter (λ (row : TokenRow). not (t.serial == row.serial)) (is_apart ts) tokens)

-- no two rows have one serial
abbrev pub HaveOneSerial : List TokenRow → Type 0
HaveOneSerial rows = (a b : TokenRow) → HasItem rows a → HasItem rows b → a.serial ≡ b.serial → a ≡ b

filter_same : {A : Type 0} (p q : A → Bool) (xs : List A) → ((x : A) → HasItem xs x → p x ≡ q x) → filter p xs ≡ filter q xs
filter_same p q [] h = refl
filter_same {A} p q (x ∷ xs) h =
    ap (λ b. cond b (x ∷ filter p xs) (filter p xs)) (h x (inl refl)) ∙ ap (λ (ys : List A). cond (q x) (x ∷ ys) ys) (filter_same p q xs (λ y k. h y (inr k)))

-- among some rows: a row of the grant is met by its serial, and a row of another grant by none
met : (g : ℕ) (whole rows : List TokenRow) (row : TokenRow) → HaveOneSerial whole → ((x : TokenRow) → HasItem rows x → HasItem whole x) → HasItem whole row
    → (row.grant == g) ≡ false
    → is_apart (map token_of (filter (λ (x : TokenRow). x.grant == g) rows)) row ≡ true
met g whole [] row one sub has other = refl
met g whole (x ∷ xs) row one sub has other = at (x.grant == g) refl (met g whole xs row one (λ y k. sub y (inr k)) has other)
  where
    at : (b : Bool) → (x.grant == g) ≡ b → is_apart (map token_of (filter (λ (y : TokenRow). y.grant == g) xs)) row ≡ true
        → is_apart (map token_of (cond b (x ∷ filter (λ (y : TokenRow). y.grant == g) xs) (filter (λ (y : TokenRow). y.grant == g) xs))) row ≡ true
    at false e rest = rest
    at true e rest = apart (x.serial == row.serial) refl
      where
        apart : (c : Bool) → (x.serial == row.serial) ≡ c
            → (not (x.serial == row.serial) && is_apart (map token_of (filter (λ (y : TokenRow). y.grant == g) xs)) row) ≡ true
        apart false f = rw f rest
        apart true f =
            let same : x ≡ row = one x row (sub x (inl refl)) has (eqb-true x.serial row.serial f) in
            absurd (let k : true ≡ false = sym e ∙ ap (λ (y : TokenRow). y.grant == g) same ∙ other in cc k)

own : (g : ℕ) (rows : List TokenRow) (row : TokenRow) → HasItem rows row → (row.grant == g) ≡ true
    → is_apart (map token_of (filter (λ (x : TokenRow). x.grant == g) rows)) row ≡ false
own g [] row h e = absurd h
own g (x ∷ xs) row (inl same) e =
    let here : (x.grant == g) ≡ true = ap (λ (y : TokenRow). y.grant == g) (sym same) ∙ e in
    let self : (x.serial == row.serial) ≡ true = (Decides-eqb x.serial row.serial).1 (ap (λ (y : TokenRow). y.serial) (sym same)) in
    rw here (rw self refl)
own g (x ∷ xs) row (inr h) e = at (x.grant == g) (own g xs row h e)
  where
    at : (b : Bool) → is_apart (map token_of (filter (λ (y : TokenRow). y.grant == g) xs)) row ≡ false
        → is_apart (map token_of (cond b (x ∷ filter (λ (y : TokenRow). y.grant == g) xs) (filter (λ (y : TokenRow). y.grant == g) xs))) row ≡ false
    at false rest = rest
    at true rest = and_right (not (x.serial == row.serial)) (is_apart (map token_of (filter (λ (y : TokenRow). y.grant == g) xs)) row) rest

-- To retire the tokens of all rows of a grant is to take these rows out.
pub grant_retired : (g : ℕ) (rest : List Note) (grants : List GrantRow) (tokens : List TokenRow) → HaveOneSerial tokens
    → after_notes (retire (map token_of (filter (λ (row : TokenRow). row.grant == g) tokens)) ++ rest) (of_rows grants tokens)
    ≡ after_notes rest (of_rows grants (filter (λ (row : TokenRow). not (row.grant == g)) tokens))
grant_retired g rest grants tokens one =
    all_retired (map token_of (filter (λ (row : TokenRow). row.grant == g) tokens)) rest grants tokens
    ∙ ap (λ (xs : List TokenRow). after_notes rest (of_rows grants xs))
    (filter_same (is_apart (map token_of (filter (λ (row : TokenRow). row.grant == g) tokens))) (λ (row : TokenRow). not (row.grant == g)) tokens
    (λ x h. by x h (x.grant == g) refl))
  where
    by : (x : TokenRow) → HasItem tokens x → (b : Bool) → (x.grant == g) ≡ b
        → is_apart (map token_of (filter (λ (row : TokenRow). row.grant == g) tokens)) x ≡ not (x.grant == g)
    by x h true e = own g tokens x h e ∙ sym (ap not e)
    by x h false e = met g tokens tokens x one (λ y k. k) h e ∙ sym (ap not e)

same_back : (a b : ℕ) → (a == b) ≡ (b == a)
same_back a b = grind (arith, nat_tests)

-- the same, as the tables' code does it
pub grant_dropped : (g : ℕ) (rest : List Note) (grants : List GrantRow) (tokens : List TokenRow) → HaveOneSerial tokens
    → after_notes (retire (map token_of (filter (λ (row : TokenRow). row.grant == g) tokens)) ++ rest) (of_rows grants tokens)
    ≡ after_notes rest (of_rows grants (drop_tokens_of g tokens))
grant_dropped g rest grants tokens one =
    grant_retired g rest grants tokens one
    ∙ ap (λ (xs : List TokenRow). after_notes rest (of_rows grants xs))
    (filter_same (λ (row : TokenRow). not (row.grant == g)) (λ (row : TokenRow). not (g == row.grant)) tokens (λ x h. ap not (same_back x.grant g)))
