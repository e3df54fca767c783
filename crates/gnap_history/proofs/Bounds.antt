-- How many grants and tokens are live, at most.
use Rattle.std.proofs.Common.{◌≡◌, ◌∙◌, ℕ, ◌+◌, ◌≤◌, Bool, true, false, cond, List, [], ◌∷◌, length, reverse, Option, Some, None, refl, arith}
use Rattle.std.specs.List.{count_by, filter_map, cons_option, list_any, list_all}
use Rattle.std.specs.Prelude.{not, ◌&&◌, ◌==◌, nat_lt, nat_le, is_some}
use Rattle.std.specs.Option.{option_or}
use Rattle.std.proofs.lemmas.Bool.{and_parts}
use Rattle.std.proofs.lemmas.Bool.Decides.{nat_tests}
use Rattle.std.proofs.lemmas.List.{length-reverse, reverse-append}
use Rattle.std.proofs.lemmas.List.Folds.{list_all-append}
use Rattle.std.proofs.lemmas.List.Sums.{sum_by-cons, length-filter, count_by-le-length}
use Rattle.gnap_model.specs.Common.{some_if, first_of}
use Rattle.gnap_model.specs.Standing.{is_opening, is_live_opening, live_grants, live_tokens, token_in, is_live, issued_where, is_finalized, is_approved, is_retirement, is_end_of, has_ended, opening_in, state_change_in, grant_state, state_after, StateChange}
use Rattle.gnap_model.specs.Standing.StateChange.{ToPending, ToApproved}
use Rattle.gnap_model.specs.Standing.GrantState.{IsApproved}
use Rattle.gnap_model.specs.Change.{other_live_tokens}
use Rattle.gnap_model.specs.declared.notes.OpeningNote.{OpeningNote}
use Rattle.gnap_model.specs.declared.notes.RoundNote.{RoundNote}
use Rattle.gnap_model.specs.declared.notes.TokenNote.{TokenNote}
use Rattle.gnap_model.specs.declared.notes.Note.{Note}
use Rattle.gnap_model.specs.declared.notes.Note.TheVariants.{Opened, Terms, Approved, Issued, Door, Pended, DecidedAs, Finalized, Wrong, Retired}
use Rattle.gnap_laws.proofs.NoteCounts.{issues, filter_counted, count-reverse}
use Rattle.gnap_history.specs.Counts.{is_issue, is_unexpired, is_live_elsewhere, lets_go_on}
use Rattle.gnap_history.proofs.Counts.{sum_by-reverse}

at_most_one : (b : Bool) → cond b 1 0 ≤ 1
at_most_one true = omega arith
at_most_one false = omega arith

live_opening : (whole : List Note) (now : ℕ) (note : Note) → cond (is_live_opening whole now note) 1 0 ≤ cond (is_opening note) 1 0
live_opening whole now (Opened o) = at_most_one (not (is_finalized (grant_state whole o.grant now)))
live_opening whole now _ = omega arith

live_openings : (whole : List Note) (now : ℕ) (trail : List Note) → count_by (is_live_opening whole now) trail ≤ count_by is_opening trail
live_openings whole now [] = omega arith
live_openings whole now (note ∷ trail) =
    let here = live_opening whole now note in
    let live = sum_by-cons (λ note. cond (is_live_opening whole now note) 1 0) note trail in
    let opened = sum_by-cons (λ note. cond (is_opening note) 1 0) note trail in
    let rest = live_openings whole now trail in omega arith

pub live_grants-le : (notes : List Note) (now : ℕ) → live_grants (reverse notes) now ≤ count_by is_opening notes
live_grants-le notes now =
    let le = live_openings (reverse notes) now (reverse notes) in
    let same = sum_by-reverse (λ note. cond (is_opening note) 1 0) notes in omega arith

-- ---- tokens

token_some : (test : TokenNote → Bool) (p : Note → Bool) → ((t : TokenNote) → cond (test t) 1 0 ≤ cond (p (Issued t)) 1 0)
    → (note : Note) (xs : List TokenNote) → length (cons_option (token_in test note) xs) ≤ cond (p note) 1 0 + length xs
token_some test p weaker (Issued t) xs = let le = weaker t in some_few (test t) t xs (cond (p (Issued t)) 1 0) le
  where
    some_few : (b : Bool) (t : TokenNote) (xs : List TokenNote) (n : ℕ) → cond b 1 0 ≤ n → length (cons_option (some_if b t) xs) ≤ n + length xs
    some_few true t xs n le = omega arith
    some_few false t xs n le = omega arith
token_some test p weaker _ xs = omega arith

tokens_found : (test : TokenNote → Bool) (p : Note → Bool) → ((t : TokenNote) → cond (test t) 1 0 ≤ cond (p (Issued t)) 1 0)
    → (trail : List Note) → length (filter_map (token_in test) trail) ≤ count_by p trail
tokens_found test p weaker [] = omega arith
tokens_found test p weaker (note ∷ trail) =
    let here = token_some test p weaker note (filter_map (token_in test) trail) in
    let counted = sum_by-cons (λ note. cond (p note) 1 0) note trail in
    let rest = tokens_found test p weaker trail in omega arith

found_before : (test : TokenNote → Bool) (p : Note → Bool) → ((t : TokenNote) → cond (test t) 1 0 ≤ cond (p (Issued t)) 1 0)
    → (notes : List Note) → length (issued_where test (reverse notes)) ≤ count_by p notes
found_before test p weaker notes =
    let le = tokens_found test p weaker (reverse notes) in
    let turned = length-reverse (filter_map (token_in test) (reverse notes)) in
    let same = sum_by-reverse (λ note. cond (p note) 1 0) notes in omega arith

-- No more tokens are live than were issued.
pub live_tokens-le : (notes : List Note) (now : ℕ) → length (live_tokens (reverse notes) now) ≤ count_by is_issue notes
live_tokens-le notes now = found_before (is_live (reverse notes) now) is_issue (λ t. at_most_one (is_live (reverse notes) now t)) notes

middle_le : (a b c : Bool) → cond (a && b && c) 1 0 ≤ cond b 1 0
middle_le true true c = at_most_one c
middle_le true false c = omega arith
middle_le false true c = omega arith
middle_le false false c = omega arith

-- No more tokens are live than have not expired.
pub live_tokens-unexpired : (notes : List Note) (now : ℕ) → length (live_tokens (reverse notes) now) ≤ count_by (is_unexpired now) notes
live_tokens-unexpired notes now = found_before (is_live (reverse notes) now) (is_unexpired now)
    (λ t. middle_le (not (list_any (is_retirement t.serial) (reverse notes))) (nat_lt now t.until) (is_approved (grant_state (reverse notes) t.grant now)))
    notes

-- ---- where all grants go on

not_past : (now n : ℕ) → nat_lt now n ≡ true → nat_le n now ≡ false
not_past now n is = grind (arith, nat_tests)

not_over : (now : ℕ) (trail : List Note) (g : ℕ) → list_all (lets_go_on now) trail ≡ true
    → (list_any (is_end_of g) trail ≡ false) × (has_ended (first_of (opening_in g) trail) now ≡ false)
    × ((r : RoundNote) → first_of (state_change_in g) trail ≡ Some (ToPending r) → ⊥)
not_over now [] g on = (refl, refl, λ r is. cc is)
not_over now (Opened o ∷ trail) g on =
    let both = and_parts (nat_lt now o.end) (list_all (lets_go_on now) trail) on in
    let rest = not_over now trail g both.1 in
    (rest.0, first_ended (o.grant == g) rest.1, rest.2)
  where
    first_ended : (b : Bool) → has_ended (first_of (opening_in g) trail) now ≡ false
        → has_ended (option_or (some_if b o) (first_of (opening_in g) trail)) now ≡ false
    first_ended true rest = not_past now o.end (and_parts (nat_lt now o.end) (list_all (lets_go_on now) trail) on).0
    first_ended false rest = rest
not_over now (Approved h consent ∷ trail) g on =
    let rest = not_over now trail g on in
    (rest.0, rest.1, λ r. changed (h == g) r (rest.2 r))
  where
    changed : (b : Bool) (r : RoundNote) → (first_of (state_change_in g) trail ≡ Some (ToPending r) → ⊥)
        → option_or (some_if b ToApproved) (first_of (state_change_in g) trail) ≡ Some (ToPending r) → ⊥
    changed true r none is = cc is
    changed false r none is = none is
not_over now (Terms t ∷ trail) g on = not_over now trail g on
not_over now (Issued t ∷ trail) g on = not_over now trail g on
not_over now (Door h value earliest ∷ trail) g on = not_over now trail g on
not_over now (DecidedAs d ∷ trail) g on = not_over now trail g on
not_over now (Wrong h ∷ trail) g on = not_over now trail g on
not_over now _ g on = cc on

state_on : (change : Option StateChange) (now : ℕ) → ((r : RoundNote) → change ≡ Some (ToPending r) → ⊥) → state_after change now ≡ IsApproved
state_on (Some (ToPending r)) now none = absurd (none r refl)
state_on (Some ToApproved) now none = refl
state_on None now none = refl

all_approved : (now : ℕ) (trail : List Note) (g : ℕ) → list_all (lets_go_on now) trail ≡ true → grant_state trail g now ≡ IsApproved
all_approved now trail g on =
    let lasts = not_over now trail g on in
    let state = state_on (first_of (state_change_in g) trail) now lasts.2 in
    rw (lasts.0, lasts.1, state) refl

counted_alike : (p q : Note → Bool) → ((note : Note) → p note ≡ q note) → (notes : List Note) → count_by p notes ≡ count_by q notes
counted_alike p q alike [] = refl
counted_alike p q alike (note ∷ notes) =
    let one = sum_by-cons (λ note. cond (p note) 1 0) note notes in
    let other = sum_by-cons (λ note. cond (q note) 1 0) note notes in
    let same : cond {A = ℕ} (p note) 1 0 ≡ cond {A = ℕ} (q note) 1 0 = rw (alike note) refl in
    let rest = counted_alike p q alike notes in omega arith

live_alike : (whole : List Note) (now : ℕ) → ((g : ℕ) → grant_state whole g now ≡ IsApproved) → (note : Note) → is_live_opening whole now note ≡ is_opening note
live_alike whole now on (Opened o) = rw (on o.grant) refl
live_alike whole now on _ = refl

all-reverse : (p : Note → Bool) (notes : List Note) → list_all p notes ≡ true → list_all p (reverse notes) ≡ true
all-reverse p [] on = refl
all-reverse p (x ∷ xs) on =
    let both = and_parts (p x) (list_all p xs) on in
    let rest = all-reverse p xs both.1 in
    rw (reverse-append (x ∷ []) xs, list_all-append p (reverse xs) (x ∷ []), rest, both.0) refl

-- Where no grant was ended, made pending, or has come to its end, and no token was retired, all grants are live.
pub live_grants-all : (notes : List Note) (now : ℕ) → list_all (lets_go_on now) notes ≡ true → live_grants (reverse notes) now ≡ count_by is_opening notes
live_grants-all notes now on =
    counted_alike (is_live_opening (reverse notes) now) is_opening
    (live_alike (reverse notes) now (λ g. all_approved now (reverse notes) g (all-reverse (lets_go_on now) notes on))) (reverse notes)
    ∙ sum_by-reverse (λ note. cond (is_opening note) 1 0) notes

not_retired : (now : ℕ) (trail : List Note) (serial : ℕ) → list_all (lets_go_on now) trail ≡ true → list_any (is_retirement serial) trail ≡ false
not_retired now [] serial on = refl
not_retired now (Opened o ∷ trail) serial on = not_retired now trail serial (and_parts (nat_lt now o.end) (list_all (lets_go_on now) trail) on).1
not_retired now (Terms t ∷ trail) serial on = not_retired now trail serial on
not_retired now (Approved h consent ∷ trail) serial on = not_retired now trail serial on
not_retired now (Issued t ∷ trail) serial on = not_retired now trail serial on
not_retired now (Door h value earliest ∷ trail) serial on = not_retired now trail serial on
not_retired now (DecidedAs d ∷ trail) serial on = not_retired now trail serial on
not_retired now (Wrong h ∷ trail) serial on = not_retired now trail serial on
not_retired now _ serial on = cc on

middle_of : (a b c : Bool) → a ≡ true → c ≡ true → (a && b && c) ≡ b
middle_of true true true is also = refl
middle_of true false true is also = refl
middle_of true b false is also = cc also
middle_of false b c is also = cc is

live_until : (now : ℕ) (trail : List Note) (t : TokenNote) → list_all (lets_go_on now) trail ≡ true → is_live trail now t ≡ nat_lt now t.until
live_until now trail t on =
    let kept = not_retired now trail t.serial on in
    let approved = all_approved now trail t.grant on in
    middle_of (not (list_any (is_retirement t.serial) trail)) (nat_lt now t.until) (is_approved (grant_state trail t.grant now)) (rw kept refl)
    (rw approved refl)

token_each : (now : ℕ) (test : TokenNote → Bool) → ((t : TokenNote) → test t ≡ nat_lt now t.until)
    → (note : Note) (xs : List TokenNote) → length (cons_option (token_in test note) xs) ≡ cond (is_unexpired now note) 1 0 + length xs
token_each now test is (Issued t) xs = some_counted (test t) (nat_lt now t.until) (is t)
  where
    some_counted : (b c : Bool) → b ≡ c → length (cons_option (some_if b t) xs) ≡ cond c 1 0 + length xs
    some_counted true true same = omega arith
    some_counted false false same = omega arith
    some_counted true false same = cc same
    some_counted false true same = cc same
token_each now test is _ xs = omega arith

tokens_each : (now : ℕ) (test : TokenNote → Bool) → ((t : TokenNote) → test t ≡ nat_lt now t.until)
    → (trail : List Note) → length (filter_map (token_in test) trail) ≡ count_by (is_unexpired now) trail
tokens_each now test is [] = refl
tokens_each now test is (note ∷ trail) =
    let here = token_each now test is note (filter_map (token_in test) trail) in
    let counted = sum_by-cons (λ note. cond (is_unexpired now note) 1 0) note trail in
    let rest = tokens_each now test is trail in omega arith

-- And all tokens that have not expired.
pub live_tokens-all : (notes : List Note) (now : ℕ) → list_all (lets_go_on now) notes ≡ true
    → length (live_tokens (reverse notes) now) ≡ count_by (is_unexpired now) notes
live_tokens-all notes now on =
    let on_back = all-reverse (lets_go_on now) notes on in
    let each = tokens_each now (is_live (reverse notes) now) (λ t. live_until now (reverse notes) t on_back) (reverse notes) in
    let turned = length-reverse (filter_map (token_in (is_live (reverse notes) now)) (reverse notes)) in
    let same = sum_by-reverse (λ note. cond (is_unexpired now note) 1 0) notes in omega arith

-- ---- tokens of other grants

is_there : (b : Bool) (t : TokenNote) → is_some (some_if b t) ≡ b
is_there true t = refl
is_there false t = refl

other_alike : (trail : List Note) (now : ℕ) (o : OpeningNote) (note : Note)
    → issues (λ token. is_live trail now token && not (token.grant == o.grant)) note ≡ is_live_elsewhere trail now o.grant note
other_alike trail now o (Issued t) = is_there (is_live trail now t && not (t.grant == o.grant)) t
other_alike trail now o _ = refl

-- The live tokens of other grants, as they are counted from the oldest note on.
pub other_live_tokens-count : (notes : List Note) (now : ℕ) (o : OpeningNote)
    → length (other_live_tokens (reverse notes) now o) ≡ count_by (is_live_elsewhere (reverse notes) now o.grant) notes
other_live_tokens-count notes now o =
    filter_counted (is_live (reverse notes) now) (λ token. not (token.grant == o.grant)) (reverse notes)
    ∙ counted_alike _ (is_live_elsewhere (reverse notes) now o.grant) (other_alike (reverse notes) now o) (reverse notes)
    ∙ count-reverse (is_live_elsewhere (reverse notes) now o.grant) notes

-- Not more of them are live than of all.
pub other_live_tokens-le : (notes : List Note) (now : ℕ) (o : OpeningNote)
    → length (other_live_tokens (reverse notes) now o) ≤ length (live_tokens (reverse notes) now)
other_live_tokens-le notes now o =
    let kept = length-filter (λ token. not (token.grant == o.grant)) (live_tokens (reverse notes) now) in
    let few = count_by-le-length (λ (token : TokenNote). not (token.grant == o.grant)) (live_tokens (reverse notes) now) in omega arith
