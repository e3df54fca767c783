-- Counts over notes: of two lists together, and from the newest note on.
use Rattle.std.proofs.Common.{◌≡◌, ◌∙◌, ℕ, ◌+◌, ◌*◌, ◌≤◌, ◌<◌, ◌^◌, Bool, cond, List, [], ◌∷◌, ◌++◌, length, reverse, Option, Some, None, refl, ap, arith, length-append}
use Rattle.std.specs.Option.{option_to_list}
use Rattle.std.specs.List.{count_by, sum_by}
use Rattle.std.proofs.lemmas.List.{length-reverse, reverse-append}
use Rattle.std.proofs.lemmas.List.Sums.{sum_by-append, sum_by-cons, sum_by_push, count_by-le-length}
use Rattle.gnap_model.specs.Common.{Text}
use Rattle.gnap_model.specs.Notes.{note_values, trail_values, first_serial}
use Rattle.gnap_model.specs.Standing.{is_opening, next_grant}
use Rattle.gnap_model.specs.declared.notes.Note.{Note}
use Rattle.gnap_model.specs.declared.notes.Note.TheVariants.{Opened, Terms, Approved, Issued, Door, Pended, DecidedAs, Finalized, Wrong, Retired}
use Rattle.gnap_history.specs.Counts.{value_count}

-- A sum doesn't depend on the direction.
pub sum_by-reverse : {X : Type 0} (f : X → ℕ) (xs : List X) → sum_by f (reverse xs) ≡ sum_by f xs
sum_by-reverse f [] = refl
sum_by-reverse f (x ∷ xs) =
    let turned = ap (sum_by f) (reverse-append (x ∷ []) xs) in
    let pushed = sum_by_push f (reverse xs) x in
    let whole = sum_by-cons f x xs in
    let rest = sum_by-reverse f xs in omega arith

option_few : (o : Option Text) → length (option_to_list o) ≤ 1
option_few None = omega arith
option_few (Some x) = omega arith

few_in_note : (note : Note) → length (note_values note) ≤ 2
few_in_note (Pended r) = let few = option_few r.nonce in omega arith
few_in_note (DecidedAs d) = let few = option_few d.reference in omega arith
few_in_note _ = omega arith

-- A note has at most two values.
pub value_count-le : (notes : List Note) → value_count notes ≤ 2 * length notes
value_count-le [] = omega arith
value_count-le (note ∷ notes) =
    let whole = sum_by-cons (λ note. length (note_values note)) note notes in
    let here = few_in_note note in
    let rest = value_count-le notes in omega arith

values-length : (trail : List Note) → length (trail_values trail) ≡ value_count trail
values-length [] = refl
values-length (note ∷ trail) =
    let parts = length-append (reverse (note_values note)) (trail_values trail) in
    let turned = length-reverse (note_values note) in
    let whole = sum_by-cons (λ note. length (note_values note)) note trail in
    let rest = values-length trail in omega arith

-- The next serial is one more than the values so far.
pub serial_is : (notes : List Note) → first_serial (reverse notes) ≡ value_count notes + 1
serial_is notes = ap (λ n. n + 1) (values-length (reverse notes) ∙ sum_by-reverse (λ note. length (note_values note)) notes)

-- The next grant is one more than the grants so far.
pub grant_is : (notes : List Note) → next_grant (reverse notes) ≡ count_by is_opening notes + 1
grant_is notes = ap (λ n. n + 1) (sum_by-reverse _ notes)

-- The counts of a list that lies in memory fit.
pub joined_count : (p : Note → Bool) (notes more part all : List Note) (n k : ℕ)
    → n ≡ count_by p notes → k ≡ count_by p part → part ≡ more → all ≡ notes ++ more → length all < 2 ^ 57
    → n + k < 2 ^ 57
joined_count p notes more part all n k is_n is_k same is few =
    let parts = sum_by-append (λ note. cond (p note) 1 0) notes more in
    let le = count_by-le-length p all in
    let whole = ap (count_by p) is in
    let other = ap (count_by p) same in omega arith

pub joined_values : (notes more part all : List Note) (n k : ℕ)
    → n ≡ value_count notes → k ≡ value_count part → part ≡ more → all ≡ notes ++ more → length all < 2 ^ 57
    → n + k < 2 ^ 58
joined_values notes more part all n k is_n is_k same is few =
    let parts = sum_by-append (λ note. length (note_values note)) notes more in
    let le = value_count-le all in
    let whole = ap value_count is in
    let other = ap value_count same in omega arith

pub values_in_memory : (notes all : List Note) → all ≡ notes → length all < 2 ^ 57 → value_count notes < 2 ^ 58
values_in_memory notes all is few =
    let same = ap length is in
    let le = value_count-le notes in omega arith
