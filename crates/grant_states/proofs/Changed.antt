-- A list in the order of its keys, changed at the place of a key.
use Rattle.std.proofs.Common.{ℕ, zero, suc, ◌≡◌, ◌⊎◌, ◌<◌, ◌≤◌, Bool, true, false, List, [], ◌∷◌, length, get_or, map, refl, sym, ◌∙◌, ap, subst, inl, inr, arith, Some, None, cond}
use Rattle.std.specs.Prelude.{◌==◌, not, if◌then◌else◌, filter, slice_get}
use Rattle.std.specs.List.{AllPairs, remove}
use Rattle.std.proofs.Math.ListN.{set}
use Rattle.std.proofs.lemmas.Bool.{eqb-true, cases_lt}
use Rattle.gnap_tables.proofs.Lists.{HasItem}
use Rattle.ordered_search.specs.Order.{IsAscending, IsPlaceOf}
use Rattle.grant_states.proofs.Items.{item_at, item_in, get_at, get_past}
use Rattle.grant_states.proofs.Placed.{at_place, eqb-self}

-- ---- a change of the item with a key

none_changed : {A : Type 0} (key : A → ℕ) (f : A → A) (xs : List A) (k : ℕ) → ((z : A) → HasItem xs z → (k == key z) ≡ true → ⊥)
    → map (λ x. if k == key x then f x else x) xs ≡ xs
none_changed key f [] k h = refl
none_changed {A} key f (x ∷ xs) k h = at (k == key x) refl (none_changed key f xs k (λ z m e. h z (inr m) e))
  where
    at : (b : Bool) → (k == key x) ≡ b → map (λ x. if k == key x then f x else x) xs ≡ xs
        → (if b then f x else x) ∷ map (λ x. if k == key x then f x else x) xs ≡ x ∷ xs
    at true e rest = absurd (h x (inl refl) e)
    at false e rest = ap (λ (ys : List A). x ∷ ys) rest

-- Where only the item at a place may have the key, the change of all with the key is the change of this one.
set_changed : {A : Type 0} (key : A → ℕ) (f : A → A) (xs : List A) (i k : ℕ) (d : A) → i < length xs
    → ((j : ℕ) → j < length xs → (k == key (get_or xs j d)) ≡ true → j ≡ i)
    → set xs i (if k == key (get_or xs i d) then f (get_or xs i d) else get_or xs i d) ≡ map (λ x. if k == key x then f x else x) xs
set_changed key f [] i k d inside one = absurd (omega arith)
set_changed {A} key f (x ∷ xs) zero k d inside one =
    sym (ap (λ (ys : List A). (if k == key x then f x else x) ∷ ys) (none_changed key f xs k (λ z h e. let p = item_at xs z h in
    let same = one (suc p.0) (let l = p.1 in omega arith) (subst (λ (y : A). (k == key y) ≡ true) (sym (p.2 d)) e) in absurd (omega arith))))
set_changed {A} key f (x ∷ xs) (suc i) k d inside one = at (k == key x) refl
    (set_changed key f xs i k d (omega arith) (λ j lt e. let s = one (suc j) (omega arith) e in omega arith))
  where
    at : (b : Bool) → (k == key x) ≡ b
        → set xs i (if k == key (get_or xs i d) then f (get_or xs i d) else get_or xs i d) ≡ map (λ x. if k == key x then f x else x) xs
        → x ∷ set xs i (if k == key (get_or xs i d) then f (get_or xs i d) else get_or xs i d) ≡ (if b then f x else x)
        ∷ map (λ x. if k == key x then f x else x) xs
    at true e rest = let s = one 0 (omega arith) e in absurd (omega arith)
    at false e rest = ap (λ (ys : List A). x ∷ ys) rest

only_here : {A : Type 0} (key : A → ℕ) (xs : List A) (i k : ℕ) (d : A) → AllPairs (λ (a b : A). key a < key b) xs → IsAscending (map key xs)
    → IsPlaceOf k (map key xs) i
    → (j : ℕ) → j < length xs → (k == key (get_or xs j d)) ≡ true → j ≡ i
only_here {A} key xs i k d pairs ascending place j jn e =
    let is : k ≡ key (get_or xs j d) = eqb-true k (key (get_or xs j d)) e in
    let there = at_place key xs i k (get_or xs j d) ascending place (item_in xs j d jn) (sym is) in inside (cases_lt i (length xs)) there is
  where
    apart : (a b : ℕ) → a ≡ b → (i < j → a < b) → (j < i → b < a) → j ≡ i
    apart a b e f g = elim (cases_lt i j) [
      | inl lt ↦ (let x = f lt in absurd (omega arith))
      | inr le ↦ elim (cases_lt j i) [ inl lt ↦ (let x = g lt in absurd (omega arith)) | inr ge ↦ omega arith ]
    ]

    inside : (i < length xs) ⊎ (length xs ≤ i) → slice_get xs i ≡ Some (get_or xs j d) → k ≡ key (get_or xs j d) → j ≡ i
    inside (inl lt) there is =
        let at : Some (get_or xs i d) ≡ Some (get_or xs j d) = sym (get_at xs i d lt) ∙ there in
        let same : get_or xs i d ≡ get_or xs j d = cc at in
        apart (key (get_or xs i d)) (key (get_or xs j d)) (ap key same) (λ l. pairs i j d l jn) (λ l. pairs j i d l lt)
    inside (inr le) there is = let n : None ≡ Some (get_or xs j d) = sym (get_past xs i le) ∙ there in cc n

pub changed_at : {A : Type 0} (key : A → ℕ) (f : A → A) (xs : List A) (i k : ℕ) (d : A) → AllPairs (λ (a b : A). key a < key b) xs → IsAscending (map key xs)
    → IsPlaceOf k (map key xs) i
    → i < length xs → set xs i (if k == key (get_or xs i d) then f (get_or xs i d) else get_or xs i d) ≡ map (λ x. if k == key x then f x else x) xs
changed_at key f xs i k d pairs ascending place inside = set_changed key f xs i k d inside (only_here key xs i k d pairs ascending place)

pub changed_past : {A : Type 0} (key : A → ℕ) (f : A → A) (xs : List A) (i k : ℕ) → IsAscending (map key xs) → IsPlaceOf k (map key xs) i → length xs ≤ i
    → xs ≡ map (λ x. if k == key x then f x else x) xs
changed_past {A} key f xs i k ascending place past =
    sym (none_changed key f xs k (λ z h e. let there = at_place key xs i k z ascending place h (sym (eqb-true k (key z) e)) in let n : None
    ≡ Some z = sym (get_past xs i past) ∙ there in cc n))

-- ---- an item is taken out

pub all_left : {A : Type 0} (key : A → ℕ) (xs : List A) (k : ℕ) → ((z : A) → HasItem xs z → key z ≡ k → ⊥) → xs ≡ filter (λ x. not (k == key x)) xs
all_left key [] k h = refl
all_left {A} key (x ∷ xs) k h = at (k == key x) refl (all_left key xs k (λ z m e. h z (inr m) e))
  where
    at : (b : Bool) → (k == key x) ≡ b → xs ≡ filter (λ x. not (k == key x)) xs
        → x ∷ xs ≡ cond (not b) (x ∷ filter (λ x. not (k == key x)) xs) (filter (λ x. not (k == key x)) xs)
    at true e rest = absurd (h x (inl refl) (sym (eqb-true k (key x) e)))
    at false e rest = ap (λ (ys : List A). x ∷ ys) rest

pub removed_at : {A : Type 0} (key : A → ℕ) (xs : List A) (i k : ℕ) (d : A) → AllPairs (λ (a b : A). key a < key b) xs → i < length xs → key (get_or xs i d) ≡ k
    → remove xs i ≡ filter (λ x. not (k == key x)) xs
removed_at {A} key xs i k d pairs inside is = go xs i inside is (λ j jn e. place j jn e)
  where
    place : (j : ℕ) → j < length xs → key (get_or xs j d) ≡ k → j ≡ i
    place j jn e = apart i j (key (get_or xs i d)) (key (get_or xs j d)) (is ∙ sym e) (λ l. pairs i j d l jn) (λ l. pairs j i d l inside)
      where
        apart : (i j a b : ℕ) → a ≡ b → (i < j → a < b) → (j < i → b < a) → j ≡ i
        apart i j a b e f g = elim (cases_lt i j) [
          | inl lt ↦ (let x = f lt in absurd (omega arith))
          | inr le ↦ elim (cases_lt j i) [ inl lt ↦ (let x = g lt in absurd (omega arith)) | inr ge ↦ omega arith ]
        ]

    go : (ys : List A) (i : ℕ) → i < length ys → key (get_or ys i d) ≡ k → ((j : ℕ) → j < length ys → key (get_or ys j d) ≡ k → j ≡ i)
        → remove ys i ≡ filter (λ x. not (k == key x)) ys
    go [] i inside is one = absurd (omega arith)
    go (y ∷ ys) zero inside is one =
        let gone : (k == key y) ≡ true = rw is (eqb-self k) in
        let rest = all_left key ys k (λ z h e. let p = item_at ys z h in
        let s = one (suc p.0) (let l = p.1 in omega arith) (ap key (p.2 d) ∙ e) in absurd (omega arith)) in
        rest ∙ rw gone refl
    go (y ∷ ys) (suc i) inside is one = at (k == key y) refl (go ys i (omega arith) is (λ j jn e. let s = one (suc j) (omega arith) e in omega arith))
      where
        at : (b : Bool) → (k == key y) ≡ b → remove ys i ≡ filter (λ x. not (k == key x)) ys
            → y ∷ remove ys i ≡ cond (not b) (y ∷ filter (λ x. not (k == key x)) ys) (filter (λ x. not (k == key x)) ys)
        at true e rest = let s = one 0 (omega arith) (sym (eqb-true k (key y) e)) in absurd (omega arith)
        at false e rest = ap (λ (zs : List A). y ∷ zs) rest

-- ---- what passes is kept

pub map-filter : {A B : Type 0} (f : A → B) (t : A → Bool) (u : B → Bool) (xs : List A) → ((x : A) → HasItem xs x → t x ≡ u (f x))
    → map f (filter t xs) ≡ filter u (map f xs)
map-filter f t u [] h = refl
map-filter {A} {B} f t u (x ∷ xs) h = at (t x) (u (f x)) (h x (inl refl)) (map-filter f t u xs (λ z m. h z (inr m)))
  where
    at : (b c : Bool) → b ≡ c → map f (filter t xs) ≡ filter u (map f xs)
        → map f (cond b (x ∷ filter t xs) (filter t xs)) ≡ cond c (f x ∷ filter u (map f xs)) (filter u (map f xs))
    at true true e rest = ap (λ (ys : List B). f x ∷ ys) rest
    at true false e rest = cc e
    at false true e rest = cc e
    at false false e rest = rest
