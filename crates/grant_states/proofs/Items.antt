-- Elements of lists, and look-ups that find one thing at most.
use Rattle.std.proofs.Common.{cond, ℕ, zero, suc, ◌≡◌, ◌⊎◌, ◌<◌, ◌≤◌, Bool, true, false, List, [], ◌∷◌, ◌++◌, map, reverse, length, get_or, refl, sym, ◌∙◌, ap, subst, inl, inr, arith, Option, Some, None}
use Rattle.std.specs.Prelude.{filter, slice_get, is_some, option_map, ◌||◌}
use Rattle.std.specs.Option.{option_or}
use Rattle.std.specs.List.{All, list_any}
use Rattle.gnap_model.specs.Common.{first_of, some_if}
use Rattle.gnap_model.proofs.LookUps.{some_if_some, option_or_cases}
use Rattle.gnap_tables.specs.RowSearches.{newest}
use Rattle.gnap_tables.proofs.Lists.{HasItem, reverse-cons, any_found}

pub item_append : {A : Type 0} (xs ys : List A) (z : A) → HasItem (xs ++ ys) z → HasItem xs z ⊎ HasItem ys z
item_append [] ys z h = inr h
item_append (x ∷ xs) ys z (inl e) = inl (inl e)
item_append (x ∷ xs) ys z (inr h) = elim (item_append xs ys z h) [ inl a ↦ inl (inr a) | inr b ↦ inr b ]

pub item_left : {A : Type 0} (xs ys : List A) (z : A) → HasItem xs z → HasItem (xs ++ ys) z
item_left [] ys z h = absurd h
item_left (x ∷ xs) ys z (inl e) = inl e
item_left (x ∷ xs) ys z (inr h) = inr (item_left xs ys z h)

pub item_right : {A : Type 0} (xs ys : List A) (z : A) → HasItem ys z → HasItem (xs ++ ys) z
item_right [] ys z h = h
item_right (x ∷ xs) ys z h = inr (item_right xs ys z h)

pub item-reverse : {A : Type 0} (xs : List A) (z : A) → HasItem (reverse xs) z → HasItem xs z
item-reverse [] z h = h
item-reverse {A} (x ∷ xs) z h = elim (item_append (reverse xs) (x ∷ []) z (subst (λ (ys : List A). HasItem ys z) (reverse-cons x xs) h)) [
  | inl a ↦ inr (item-reverse xs z a)
  | inr b ↦ elim b [ inl e ↦ inl e | inr n ↦ absurd n ]
]

pub item-reversed : {A : Type 0} (xs : List A) (z : A) → HasItem xs z → HasItem (reverse xs) z
item-reversed [] z h = h
item-reversed {A} (x ∷ xs) z (inl e) = subst (λ (ys : List A). HasItem ys z) (sym (reverse-cons x xs)) (item_right (reverse xs) (x ∷ []) z (inl e))
item-reversed {A} (x ∷ xs) z (inr h) = subst (λ (ys : List A). HasItem ys z) (sym (reverse-cons x xs))
    (item_left (reverse xs) (x ∷ []) z (item-reversed xs z h))

-- the place of an element
pub item_at : {A : Type 0} (xs : List A) (z : A) → HasItem xs z → (i : ℕ) × (i < length xs) × ((d : A) → get_or xs i d ≡ z)
item_at [] z h = absurd h
item_at (x ∷ xs) z (inl e) = (0, omega arith, λ d. sym e)
item_at (x ∷ xs) z (inr h) = let r = item_at xs z h in (suc r.0, (let l = r.1 in omega arith), r.2)

pub item_in : {A : Type 0} (xs : List A) (i : ℕ) (d : A) → i < length xs → HasItem xs (get_or xs i d)
item_in [] i d h = absurd (omega arith)
item_in (x ∷ xs) zero d h = inl refl
item_in (x ∷ xs) (suc i) d h = inr (item_in xs i d (omega arith))

-- what passes a test
pub item_filtered : {A : Type 0} (test : A → Bool) (xs : List A) (z : A) → HasItem xs z → test z ≡ true → HasItem (filter test xs) z
item_filtered test [] z h t = absurd h
item_filtered {A} test (x ∷ xs) z (inl e) t = at (test x) (ap test (sym e) ∙ t)
  where
    at : (b : Bool) → b ≡ true → HasItem (cond b (x ∷ filter test xs) (filter test xs)) z
    at true k = inl e
    at false k = cc k
item_filtered {A} test (x ∷ xs) z (inr h) t = at (test x) (item_filtered test xs z h t)
  where
    at : (b : Bool) → HasItem (filter test xs) z → HasItem (cond b (x ∷ filter test xs) (filter test xs)) z
    at true k = inr k
    at false k = k

pub item_of_filter : {A : Type 0} (test : A → Bool) (xs : List A) (z : A) → HasItem (filter test xs) z → HasItem xs z × (test z ≡ true)
item_of_filter test [] z h = absurd h
item_of_filter {A} test (x ∷ xs) z h = at (test x) refl h (item_of_filter test xs z)
  where
    at : (b : Bool) → test x ≡ b → HasItem (cond b (x ∷ filter test xs) (filter test xs)) z → (HasItem (filter test xs) z → HasItem xs z × (test z ≡ true))
        → HasItem (x ∷ xs) z × (test z ≡ true)
    at true e (inl same) rest = (inl same, ap test same ∙ e)
    at true e (inr m) rest = let r = rest m in (inr r.0, r.1)
    at false e m rest = let r = rest m in (inr r.0, r.1)

-- a fact of all elements
pub item_all : {A : Type 0} (P : A → Type 0) (xs : List A) (z : A) → All P xs → HasItem xs z → P z
item_all P xs z all h = let p = item_at xs z h in subst P (p.2 z) (all p.0 z p.1)

pub item_of_map : {A B : Type 0} (f : A → B) (xs : List A) (z : B) → HasItem (map f xs) z → (x : A) × HasItem xs x × (f x ≡ z)
item_of_map f [] z h = absurd h
item_of_map f (x ∷ xs) z (inl e) = (x, inl refl, sym e)
item_of_map f (x ∷ xs) z (inr h) = let r = item_of_map f xs z h in (r.0, inr r.1, r.2)

pub get_at : {A : Type 0} (xs : List A) (i : ℕ) (d : A) → i < length xs → slice_get xs i ≡ Some (get_or xs i d)
get_at [] i d h = absurd (omega arith)
get_at (x ∷ xs) zero d h = refl
get_at (x ∷ xs) (suc i) d h = get_at xs i d (omega arith)

pub get_has : {A : Type 0} (xs : List A) (i : ℕ) (z : A) → slice_get xs i ≡ Some z → HasItem xs z
get_has [] i z e = cc e
get_has (x ∷ xs) zero z e = inl (cc e)
get_has (x ∷ xs) (suc i) z e = inr (get_has xs i z e)

pub get_past : {A : Type 0} (xs : List A) (i : ℕ) → length xs ≤ i → slice_get xs i ≡ None
get_past [] i h = refl
get_past (x ∷ xs) zero h = absurd (omega arith)
get_past (x ∷ xs) (suc i) h = get_past xs i (omega arith)

-- ---- look-ups

first_only : {A B : Type 0} (look : A → Option B) (xs : List A) (x : A) (y : B) → HasItem xs x → look x ≡ Some y
    → ((z : A) (w : B) → HasItem xs z → look z ≡ Some w → w ≡ y) → first_of look xs ≡ Some y
first_only look [] x y h e one = absurd h
first_only {A} {B} look (n ∷ xs) x y (inl same) e one = ap (λ (o : Option B). option_or o (first_of look xs)) (ap look (sym same) ∙ e)
first_only {A} {B} look (n ∷ xs) x y (inr h) e one = at (look n) refl (first_only look xs x y h e (λ z w k. one z w (inr k)))
  where
    at : (o : Option B) → look n ≡ o → first_of look xs ≡ Some y → option_or o (first_of look xs) ≡ Some y
    at None f rest = rest
    at (Some w) f rest = ap (λ (v : B). Some v) (one n w (inl refl) f)

first_none : {A B : Type 0} (look : A → Option B) (xs : List A) → ((z : A) → HasItem xs z → look z ≡ None) → first_of look xs ≡ None
first_none look [] h = refl
first_none {A} {B} look (x ∷ xs) h = ap (λ (o : Option B). option_or o (first_of look xs)) (h x (inl refl)) ∙ first_none look xs (λ z k. h z (inr k))

pub newest_only : {A B : Type 0} (look : A → Option B) (xs : List A) (x : A) (y : B) → HasItem xs x → look x ≡ Some y
    → ((z : A) (w : B) → HasItem xs z → look z ≡ Some w → w ≡ y) → newest look xs ≡ Some y
newest_only look xs x y h e one = first_only look (reverse xs) x y (item-reversed xs x h) e (λ z w k. one z w (item-reverse xs z k))

pub newest_none : {A B : Type 0} (look : A → Option B) (xs : List A) → ((z : A) → HasItem xs z → look z ≡ None) → newest look xs ≡ None
newest_none look xs h = first_none look (reverse xs) (λ z k. h z (item-reverse xs z k))

first_found : {A B : Type 0} (look : A → Option B) (xs : List A) (y : B) → first_of look xs ≡ Some y → (z : A) × HasItem xs z × (look z ≡ Some y)
first_found look [] y e = cc e
first_found look (x ∷ xs) y e = elim (option_or_cases (look x) (first_of look xs) y e) [
  | inl a ↦ (x, inl refl, a)
  | inr b ↦ let r = first_found look xs y b.1 in (r.0, inr r.1, r.2)
]

-- what was found is an element that passes
pub found_in : {A : Type 0} (test : A → Bool) (xs : List A) (y : A) → newest (λ x. some_if (test x) x) xs ≡ Some y → HasItem xs y × (test y ≡ true)
found_in {A} test xs y e =
    let r = first_found (λ x. some_if (test x) x) (reverse xs) y e in
    let both = some_if_some (test r.0) r.0 y r.2 in
    (item-reverse xs y (subst (HasItem (reverse xs)) both.1 r.1), subst (λ (x : A). test x ≡ true) both.1 both.0)

none_parts : {B : Type 0} (a b : Option B) → option_or a b ≡ None → (a ≡ None) × (b ≡ None)
none_parts None b e = (refl, e)
none_parts (Some x) b e = cc e

first_nothing : {A B : Type 0} (look : A → Option B) (xs : List A) → first_of look xs ≡ None → (z : A) → HasItem xs z → look z ≡ None
first_nothing look [] e z h = absurd h
first_nothing look (x ∷ xs) e z (inl same) = ap look same ∙ (none_parts (look x) (first_of look xs) e).0
first_nothing look (x ∷ xs) e z (inr h) = first_nothing look xs (none_parts (look x) (first_of look xs) e).1 z h

-- where nothing was found, no element passes
pub found_none : {A : Type 0} (test : A → Bool) (xs : List A) → newest (λ x. some_if (test x) x) xs ≡ None → (z : A) → HasItem xs z → test z ≡ true → ⊥
found_none test xs e z h t =
    let n = first_nothing (λ x. some_if (test x) x) (reverse xs) e z (item-reversed xs z h) in
    let y : some_if (test z) z ≡ Some z = rw t refl in
    let k : None ≡ Some z = sym n ∙ y in cc k

pub newest_some : {A B : Type 0} (look : A → Option B) (xs : List A) (z : A) (w : B) → HasItem xs z → look z ≡ Some w → is_some (newest look xs) ≡ true
newest_some {A} {B} look xs z w h e = by (newest look xs) refl
  where
    by : (o : Option B) → newest look xs ≡ o → is_some (newest look xs) ≡ true
    by None n = let k : None ≡ Some w = sym (first_nothing look (reverse xs) n z (item-reversed xs z h)) ∙ e in cc k
    by (Some y) n = ap is_some n

-- an element passes where the newest that passes is found
pub any_newest : {A : Type 0} (test : A → Bool) (xs : List A) → is_some (newest (λ x. some_if (test x) x) xs) ≡ list_any test xs
any_newest {A} test xs = sym (any_found test (reverse xs)) ∙ turned xs
  where
    joined : (ys zs : List A) → list_any test (ys ++ zs) ≡ (list_any test ys || list_any test zs)
    joined [] zs = refl
    joined (y ∷ ys) zs = step (test y) (joined ys zs)
      where
        step : (b : Bool) → list_any test (ys ++ zs) ≡ (list_any test ys || list_any test zs)
            → (b || list_any test (ys ++ zs)) ≡ ((b || list_any test ys) || list_any test zs)
        step true e = refl
        step false e = e

    swap : (a b : Bool) → (a || (b || false)) ≡ (b || a)
    swap true true = refl
    swap true false = refl
    swap false true = refl
    swap false false = refl

    turned : (ys : List A) → list_any test (reverse ys) ≡ list_any test ys
    turned [] = refl
    turned (y ∷ ys) = ap (list_any test) (reverse-cons y ys) ∙ joined (reverse ys) (y ∷ []) ∙ swap (list_any test (reverse ys)) (test y)
        ∙ ap (λ b. test y || b) (turned ys)

-- ---- what stands at a place

pub same_place : {A : Type 0} (xs : List A) (i : ℕ) (x y : A) → i < length xs → x ≡ get_or xs i x → y ≡ get_or xs i y → x ≡ y
same_place {A} xs i x y inside is also =
    let e : Some (get_or xs i x) ≡ Some (get_or xs i y) = sym (get_at xs i x inside) ∙ get_at xs i y inside in
    let k : get_or xs i x ≡ get_or xs i y = cc e in is ∙ k ∙ sym also

pub item_mapped : {A B : Type 0} (f : A → B) (xs : List A) (x : A) → HasItem xs x → HasItem (map f xs) (f x)
item_mapped f [] x h = absurd h
item_mapped f (y ∷ ys) x (inl e) = inl (ap f e)
item_mapped f (y ∷ ys) x (inr h) = inr (item_mapped f ys x h)

-- a fact of all that is read off the elements
pub all_mapped : {A B : Type 0} (P : B → Type 0) (f : A → B) (xs : List A) (ys : List B) (i : ℕ) (x : A) → map f xs ≡ ys → All P ys → i < length xs
    → x ≡ get_or xs i x → P (f x)
all_mapped {A} {B} P f xs ys i x view all inside is =
    item_all P ys (f x) all (subst (λ (zs : List B). HasItem zs (f x)) view (item_mapped f xs x (subst (HasItem xs) (sym is) (item_in xs i x inside))))

pub is_some-map : {A B : Type 0} (f : A → B) (o : Option A) → is_some o ≡ is_some (option_map f o)
is_some-map f None = refl
is_some-map f (Some x) = refl
