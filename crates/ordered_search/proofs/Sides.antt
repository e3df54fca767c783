-- Which keys stand before and after a place.
use Rattle.std.proofs.Common.{ap, sym, ◌≡◌, ℕ, ◌+◌, ◌<◌, ◌≤◌, arith, List, length, get_or, true, false, nat_lt, ◌∙◌}
use Rattle.std.specs.Prelude.{map, slice_index}
use Rattle.std.proofs.lemmas.List.{get_or-map, length-map}
use Rattle.std.proofs.lemmas.Bool.Decides.{nat_tests}
use Rattle.ordered_search.specs.Order.{IsAscending}

up_to : (keys : List ℕ) → IsAscending keys → (i j : ℕ) → i ≤ j → j < length keys → slice_index keys i ≤ slice_index keys j
up_to keys ascending i j le at = grind (arith, ascending i j)

key_at : {A : Type 0} (key_of : A → ℕ) (items : List A) (m : ℕ) (x : A) → x ≡ get_or items m x → m < length items → slice_index (map key_of items) m ≡ key_of x
key_at key_of items m x is at = get_or-map key_of items m x 0 at ∙ ap key_of (sym is)

-- the item in the middle has a smaller key, and so have those before it
pub before : {A : Type 0} (key_of : A → ℕ) (items : List A) (m i key : ℕ) (x : A) → x ≡ get_or items m x → IsAscending (map key_of items) → m < length items
    → true ≡ nat_lt (key_of x) key → i < m + 1 → slice_index (map key_of items) i < key
before key_of items m i key x is ascending at below le =
    let there = key_at key_of items m x is at in
    let many = length-map items key_of in
    let low = up_to (map key_of items) ascending i m (omega (arith, le)) (omega (arith, many, at)) in
    grind (arith, nat_tests, there, low, below)

-- the item in the middle has no smaller key, nor have those after it
pub after : {A : Type 0} (key_of : A → ℕ) (items : List A) (m i key : ℕ) (x : A) → x ≡ get_or items m x → IsAscending (map key_of items) → m ≤ i
    → i < length (map key_of items)
    → false ≡ nat_lt (key_of x) key → key ≤ slice_index (map key_of items) i
after key_of items m i key x is ascending le at above =
    let many = length-map items key_of in
    let there = key_at key_of items m x is (omega (arith, le, at, many)) in
    let high = up_to (map key_of items) ascending m i le at in
    grind (arith, nat_tests, there, high, above)
