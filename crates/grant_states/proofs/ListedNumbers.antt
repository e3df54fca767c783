-- Numbers in the order of their keys.
use Rattle.std.proofs.Common.{ℕ, zero, suc, ◌+◌, ◌≡◌, ◌⊎◌, ◌<◌, ◌≤◌, Bool, true, false, List, [], ◌∷◌, length, get_or, take, drop, refl, sym, ◌∙◌, ap, subst, inl, inr, arith, ltb, Some}
use Rattle.std.specs.List.{insert, remove, items_where_true}
use Rattle.std.specs.List.Sorted.{IsNonDecreasingBy}
use Rattle.std.proofs.lemmas.List.{take-append-drop}
use Rattle.std.proofs.lemmas.List.Edits.{get_or-remove_above, get_or-remove_below, length-remove}
use Rattle.std.proofs.lemmas.List.Sorted.{IsNonDecreasingBy-insert, IsNonDecreasingBy-short, IsNonDecreasingBy-drop}
use Rattle.std.proofs.lemmas.Bool.{cases_lt}
use Rattle.std.proofs.lemmas.Bool.Decides.{nat_tests}
use Rattle.gnap_tables.proofs.Lists.{HasItem}
use Rattle.grant_states.specs.declared.numbers_by_key.Listed.{Listed}
use Rattle.grant_states.specs.Listed.{key_of, under, IsStartOf, IsEndOf}
use Rattle.grant_states.proofs.Items.{get_at, item_at, item_append, item_in, item_left, item_right}

-- ---- items of parts

pub item_past : {A : Type 0} (k : ℕ) (xs : List A) (z : A) → HasItem xs z → ((i : ℕ) → i < k → i < length xs → get_or xs i z ≡ z → ⊥) → HasItem (drop k xs) z
item_past zero xs z h never = h
item_past (suc k) [] z h never = absurd h
item_past (suc k) (x ∷ xs) z (inl e) never = absurd (never 0 (omega arith) (omega arith) (sym e))
item_past (suc k) (x ∷ xs) z (inr h) never = item_past k xs z h (λ i lt inside e. never (suc i) (omega arith) (omega arith) e)

pub item_before : {A : Type 0} (k : ℕ) (xs : List A) (z : A) → HasItem xs z → ((i : ℕ) → k ≤ i → i < length xs → get_or xs i z ≡ z → ⊥) → HasItem (take k xs) z
item_before k [] z h never = absurd h
item_before zero (x ∷ xs) z h never = let p = item_at (x ∷ xs) z h in absurd (never p.0 (omega arith) p.1 (p.2 z))
item_before (suc k) (x ∷ xs) z (inl e) never = inl e
item_before (suc k) (x ∷ xs) z (inr h) never = inr (item_before k xs z h (λ i le inside e. never (suc i) (omega arith) (omega arith) e))

pub item_inserted : {A : Type 0} (xs : List A) (i : ℕ) (y : A) → HasItem (insert xs i y) y
item_inserted xs i y = item_right (take i xs) (y ∷ drop i xs) y (inl refl)

pub item_stays : {A : Type 0} (xs : List A) (i : ℕ) (y z : A) → HasItem xs z → HasItem (insert xs i y) z
item_stays {A} xs i y z h = elim (item_append (take i xs) (drop i xs) z (subst (λ (ys : List A). HasItem ys z) (sym (take-append-drop i xs)) h)) [
  | inl a ↦ item_left (take i xs) (y ∷ drop i xs) z a
  | inr b ↦ item_right (take i xs) (y ∷ drop i xs) z (inr b)
]

-- ---- the place of a key

pub inserted_in_order : (listed : List Listed) (at : ℕ) (one : Listed) → IsNonDecreasingBy key_of listed → at ≤ length listed → IsEndOf (key_of one) listed at
    → IsNonDecreasingBy key_of (insert listed at one)
inserted_in_order listed at one order inside point = IsNonDecreasingBy-insert key_of listed at one order inside
    (λ k d lt. let e = point.0 k d (omega arith) lt in grind (arith, nat_tests, e))
    (λ k d le lt. let e = point.1 k d le lt in grind (arith, nat_tests, e))

pub of_from : (listed : List Listed) (low key : ℕ) (one : Listed) → IsStartOf key listed low → HasItem listed one → one.key ≡ key
    → HasItem (drop low listed) one
of_from listed low key one point h mine = item_past low listed one h (λ i lt inside is.
    let e = point.0 i one (omega arith) lt in
    let same : key_of (get_or listed i one) ≡ key = ap key_of is ∙ mine in
    absurd (grind (arith, nat_tests, e, same)))

pub of_within : (listed : List Listed) (high key : ℕ) (one : Listed) → IsEndOf key listed high → HasItem listed one → one.key ≡ key
    → HasItem (take high listed) one
of_within listed high key one point h mine = item_before high listed one h (λ i le inside is.
    let e = point.1 i one le inside in
    let same : key_of (get_or listed i one) ≡ key = ap key_of is ∙ mine in
    absurd (grind (arith, nat_tests, e, same)))

-- what stands at a place is read with any default
one_at : (listed : List Listed) (at : ℕ) (d e : Listed) → at < length listed → get_or listed at d ≡ get_or listed at e
one_at listed at d e inside = let k : Some (get_or listed at d) ≡ Some (get_or listed at e) = sym (get_at listed at d inside)
    ∙ get_at listed at e inside in cc k

-- A number isn't listed where none of its key has it, as far as the first greater key.
pub missing_under : (listed : List Listed) (low at key number : ℕ) (d : Listed) → IsNonDecreasingBy key_of listed → IsStartOf key listed low → low ≤ at
    → ((i : ℕ) (d : Listed) → low ≤ i → i < at → get_or listed i d ≡ under key number → ⊥) → (at < length listed → (get_or listed at d).key ≡ key → ⊥)
    → HasItem listed (under key number) → ⊥
missing_under listed low at key number d order start behind never other h = by (cases_lt there low) (cases_lt there at)
  where
    place : (i : ℕ) × (i < length listed) × ((d : Listed) → get_or listed i d ≡ under key number)
    place = item_at listed (under key number) h

    there : ℕ
    there = place.0

    its_key : key_of (get_or listed there (under key number)) ≡ key
    its_key = ap key_of (place.2 (under key number))

    by : (there < low) ⊎ (low ≤ there) → (there < at) ⊎ (at ≤ there) → ⊥
    by (inl before) b = let e = start.0 there (under key number) (omega arith) before in let k = its_key in absurd (grind (arith, nat_tests, e, k))
    by (inr from) (inl before) = never there (under key number) from before (place.2 (under key number))
    by (inr from) (inr past) =
        let inside : there < length listed = place.1 in
        let e = start.1 at (under key number) behind (omega (arith, past, inside)) in
        let low_key = order at there (under key number) past inside in
        let k = its_key in
        let above : key ≤ key_of (get_or listed at (under key number)) = grind (arith, nat_tests, e) in
        let its : key_of (get_or listed at (under key number)) ≡ key = omega (arith, low_key, k, above) in
        other (omega (arith, past, inside)) (ap key_of (one_at listed at d (under key number) (omega (arith, past, inside))) ∙ its)

-- ---- the first of a list in order

head_low : {A : Type 0} (n : A → ℕ) (x : A) (xs : List A) (z : A) → IsNonDecreasingBy n (x ∷ xs) → HasItem xs z → n x ≤ n z
head_low n x xs z order h =
    let p = item_at xs z h in
    let inside : p.0 < length xs = p.1 in
    let low : n x ≤ n (get_or xs p.0 z) = order 0 (suc p.0) z (omega arith) (omega (arith, inside)) in
    let same : n (get_or xs p.0 z) ≡ n z = ap n (p.2 z) in omega (arith, low, same)

cons_order : {A : Type 0} (n : A → ℕ) (x : A) (ys : List A) → ((z : A) → HasItem ys z → n x ≤ n z) → IsNonDecreasingBy n ys → IsNonDecreasingBy n (x ∷ ys)
cons_order n x ys low order zero zero d le lt = omega arith
cons_order n x ys low order zero (suc j) d le lt = low (get_or ys j d) (item_in ys j d (omega (arith, lt)))
cons_order n x ys low order (suc i) zero d le lt = absurd (omega (arith, le))
cons_order n x ys low order (suc i) (suc j) d le lt = order i j d (omega (arith, le)) (omega (arith, lt))

-- ---- an item that is taken out

pub item_left_in : {A : Type 0} (xs : List A) (i : ℕ) (z : A) → HasItem (remove xs i) z → HasItem xs z
item_left_in [] zero z h = h
item_left_in [] (suc i) z h = h
item_left_in (x ∷ xs) zero z h = inr h
item_left_in (x ∷ xs) (suc i) z (inl e) = inl e
item_left_in (x ∷ xs) (suc i) z (inr h) = inr (item_left_in xs i z h)

pub item_not_taken : {A : Type 0} (xs : List A) (i : ℕ) (z : A) → HasItem xs z → (get_or xs i z ≡ z → ⊥) → HasItem (remove xs i) z
item_not_taken [] i z h other = absurd h
item_not_taken (x ∷ xs) zero z (inl e) other = absurd (other (sym e))
item_not_taken (x ∷ xs) zero z (inr h) other = h
item_not_taken (x ∷ xs) (suc i) z (inl e) other = inl e
item_not_taken (x ∷ xs) (suc i) z (inr h) other = inr (item_not_taken xs i z h other)

pub taken_in_order : {A : Type 0} (n : A → ℕ) (xs : List A) (i : ℕ) → IsNonDecreasingBy n xs → IsNonDecreasingBy n (remove xs i)
taken_in_order n [] zero order = order
taken_in_order n [] (suc i) order = order
taken_in_order n (x ∷ xs) zero order = IsNonDecreasingBy-drop n 1 (x ∷ xs) order
taken_in_order n (x ∷ xs) (suc i) order =
    cons_order n x (remove xs i) (λ z h. head_low n x xs z order (item_left_in xs i z h)) (taken_in_order n xs i (IsNonDecreasingBy-drop n 1 (x ∷ xs) order))

-- ---- what a key has is taken out from its start on

pub start_stays : (listed : List Listed) (low key : ℕ) → IsStartOf key listed low → low < length listed → IsStartOf key (remove listed low) low
start_stays listed low key start inside = (
  λ k d zero less. subst (λ (one : Listed). ltb (key_of one) key ≡ true) (sym (get_or-remove_below listed low d k less inside)) (start.0 k d zero less),
  λ k d from within.
      let many = length-remove listed low inside in
      subst (λ (one : Listed). ltb (key_of one) key ≡ false) (sym (get_or-remove_above listed low d k from inside))
      (start.1 (k + 1) d (omega (arith, from)) (omega (arith, many, within))),
)

pub other_kept : (listed : List Listed) (at key : ℕ) (d one : Listed) → at < length listed → (get_or listed at d).key ≡ key → (one.key ≡ key → ⊥)
    → HasItem listed one → HasItem (remove listed at) one
other_kept listed at key d one inside mine other h =
    item_not_taken listed at one h (λ e. other (ap key_of (sym e ∙ one_at listed at one d inside) ∙ mine))

pub none_under : (listed : List Listed) (low key : ℕ) (d : Listed) → IsNonDecreasingBy key_of listed → IsStartOf key listed low
    → (low < length listed → (get_or listed low d).key ≡ key → ⊥)
    → (one : Listed) → HasItem listed one → one.key ≡ key → ⊥
none_under listed low key d order start other one h mine =
    missing_under listed low low key one.number d order start (omega arith) (λ i e from less is. omega (arith, from, less)) other
    (subst (λ n. HasItem listed (under n one.number)) mine h)

-- ---- what is left of a list in order

pub picked_item : {A : Type 0} (bs : List Bool) (xs : List A) (z : A) → HasItem (items_where_true bs xs) z → HasItem xs z
picked_item [] xs z h = absurd h
picked_item (b ∷ bs) [] z h = absurd h
picked_item (true ∷ bs) (x ∷ xs) z (inl e) = inl e
picked_item (true ∷ bs) (x ∷ xs) z (inr h) = inr (picked_item bs xs z h)
picked_item (false ∷ bs) (x ∷ xs) z h = inr (picked_item bs xs z h)

pub picked_order : {A : Type 0} (n : A → ℕ) (bs : List Bool) (xs : List A) → IsNonDecreasingBy n xs → IsNonDecreasingBy n (items_where_true bs xs)
picked_order n [] xs order = IsNonDecreasingBy-short n [] (omega arith)
picked_order n (b ∷ bs) [] order = IsNonDecreasingBy-short n [] (omega arith)
picked_order n (true ∷ bs) (x ∷ xs) order =
    cons_order n x (items_where_true bs xs) (λ z h. head_low n x xs z order (picked_item bs xs z h))
    (picked_order n bs xs (IsNonDecreasingBy-drop n 1 (x ∷ xs) order))
picked_order n (false ∷ bs) (x ∷ xs) order = picked_order n bs xs (IsNonDecreasingBy-drop n 1 (x ∷ xs) order)
