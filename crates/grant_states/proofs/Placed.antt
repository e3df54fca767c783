-- The item that stands at the place of a key is the only one that can have the key.
use Rattle.std.proofs.Common.{ℕ, ◌≡◌, ◌<◌, ◌≤◌, Bool, true, false, List, [], ◌∷◌, length, get_or, map, refl, sym, ◌∙◌, ap, subst, inl, inr, arith, Option, Some, None}
use Rattle.std.specs.Prelude.{slice_index, slice_get, ◌==◌}
use Rattle.std.specs.Option.{option_and_then}
use Rattle.std.specs.List.{AllPairs}
use Rattle.std.proofs.lemmas.List.{length-map, get_or-map}
use Rattle.std.proofs.lemmas.Bool.{cases_lt, eqb-true}
use Rattle.std.proofs.lemmas.Bool.Decides.{Decides-eqb}
use Rattle.gnap_model.specs.Common.{some_if}
use Rattle.gnap_model.proofs.LookUps.{some_if_some}
use Rattle.gnap_tables.specs.RowSearches.{newest}
use Rattle.gnap_tables.proofs.Lists.{HasItem}
use Rattle.ordered_search.specs.Order.{IsAscending, IsPlaceOf}
use Rattle.grant_states.proofs.Items.{item_at, get_at, get_has, newest_only, newest_none}

pub eqb-self : (n : ℕ) → (n == n) ≡ true
eqb-self n = (Decides-eqb n n).1 refl

-- the key at a place
pub key_at : {A : Type 0} (key : A → ℕ) (xs : List A) (i : ℕ) (d : A) → i < length xs → slice_index (map key xs) i ≡ key (get_or xs i d)
key_at key xs i d at = get_or-map key xs i d 0 at

-- the keys of items in order ascend
pub ascending_keys : {A : Type 0} (key : A → ℕ) (xs : List A) → AllPairs (λ (a b : A). key a < key b) xs → IsAscending (map key xs)
ascending_keys {A} key xs pairs i j lt inside =
    let many = length-map xs key in
    let jn : j < length xs = omega (arith, many, inside) in some xs i j lt jn (pairs i j)
  where
    some : (ys : List A) (i j : ℕ) → i < j → j < length ys → ((d : A) → i < j → j < length ys → key (get_or ys i d) < key (get_or ys j d))
        → slice_index (map key ys) i < slice_index (map key ys) j
    some [] i j lt jn p = absurd (omega arith)
    some (y ∷ ys) i j lt jn p =
        let a = key_at key (y ∷ ys) i y (omega arith) in
        let b = key_at key (y ∷ ys) j y jn in
        let q = p y lt jn in omega (arith, a, b, q)

-- an item stands where its key is
pub at_place : {A : Type 0} (key : A → ℕ) (xs : List A) (i k : ℕ) (z : A) → IsAscending (map key xs) → IsPlaceOf k (map key xs) i → HasItem xs z → key z ≡ k
    → slice_get xs i ≡ Some z
at_place {A} key xs i k z ascending place h same =
    let p = item_at xs z h in
    let j : ℕ = p.0 in
    let many : length (map key xs) ≡ length xs = length-map xs key in
    let jn : j < length xs = p.1 in
    let here : slice_index (map key xs) j ≡ k = key_at key xs j z jn ∙ ap key (p.2 z) ∙ same in
    let not_before : i ≤ j = before i j here (place.below j) in
    let inside : i < length xs = omega arith in
    let first : k ≤ slice_index (map key xs) i = place.above i (omega arith) (omega arith) in
    let not_after : j ≤ i = past i j here first (λ lt. ascending i j lt (omega arith)) in
    let eq : i ≡ j = omega arith in
    ap (slice_get xs) eq ∙ get_at xs j z jn ∙ ap (λ (x : A). Some x) (p.2 z)
  where
    before : (i j : ℕ) → slice_index (map key xs) j ≡ k → (j < i → slice_index (map key xs) j < k) → i ≤ j
    before i j here b = elim (cases_lt j i) [ inl lt ↦ (let x = b lt in absurd (omega arith)) | inr le ↦ le ]

    past : (i j : ℕ) → slice_index (map key xs) j ≡ k → k ≤ slice_index (map key xs) i → (i < j → slice_index (map key xs) i < slice_index (map key xs) j)
        → j ≤ i
    past i j here first b = elim (cases_lt i j) [ inl lt ↦ (let x = b lt in absurd (omega arith)) | inr le ↦ le ]

-- items with one key are one item
pub one_key : {A : Type 0} (key : A → ℕ) (xs : List A) (y z : A) → AllPairs (λ (a b : A). key a < key b) xs → HasItem xs y → HasItem xs z → key y ≡ key z
    → y ≡ z
one_key {A} key xs y z pairs hy hz same =
    let p = item_at xs y hy in
    let q = item_at xs z hz in
    let a : key (get_or xs p.0 y) ≡ key y = ap key (p.2 y) in
    let b : key (get_or xs q.0 y) ≡ key z = ap key (q.2 y) in
    let eq : p.0 ≡ q.0 = places p.0 q.0 (key (get_or xs p.0 y)) (key (get_or xs q.0 y)) (a ∙ same ∙ sym b) (λ lt. pairs p.0 q.0 y lt q.1)
    (λ lt. pairs q.0 p.0 y lt p.1) in
    sym (p.2 y) ∙ ap (λ n. get_or xs n y) eq ∙ q.2 y
  where
    places : (i j a b : ℕ) → a ≡ b → (i < j → a < b) → (j < i → b < a) → i ≡ j
    places i j a b e f g = elim (cases_lt i j) [
      | inl lt ↦ (let x = f lt in absurd (omega arith))
      | inr le ↦ elim (cases_lt j i) [ inl lt ↦ (let x = g lt in absurd (omega arith)) | inr ge ↦ omega arith ]
    ]

-- Where the items that pass have this key, the item at the key's place is the only one that may pass.
pub placed : {A : Type 0} (key : A → ℕ) (test : A → Bool) (xs : List A) (i k : ℕ) → IsAscending (map key xs) → IsPlaceOf k (map key xs) i
    → ((z : A) → HasItem xs z → test z ≡ true → key z ≡ k)
    → option_and_then (λ (x : A). some_if (test x) x) (slice_get xs i) ≡ newest (λ x. some_if (test x) x) xs
placed {A} key test xs i k ascending place same = by (slice_get xs i) refl
  where
    look : A → Option A
    look x = some_if (test x) x

    here : (z w : A) → HasItem xs z → look z ≡ Some w → slice_get xs i ≡ Some w
    here z w h e =
        let both = some_if_some (test z) z w e in
        at_place key xs i k z ascending place h (same z h both.0) ∙ ap (λ (x : A). Some x) both.1

    none : ((w : A) → slice_get xs i ≡ Some w → ⊥) → (z : A) → HasItem xs z → look z ≡ None
    none never z h = nothing (look z) refl
      where
        nothing : (o : Option A) → look z ≡ o → o ≡ None
        nothing None e = refl
        nothing (Some w) e = absurd (never w (here z w h e))

    by : (o : Option A) → slice_get xs i ≡ o → option_and_then look o ≡ newest look xs
    by None e = sym (newest_none look xs (none (λ w f. let k : None ≡ Some w = sym e ∙ f in cc k)))
    by (Some r) e = at (test r) refl
      where
        at : (b : Bool) → test r ≡ b → some_if b r ≡ newest look xs
        at true t = sym (newest_only look xs r r (get_has xs i r e) (rw t refl) (λ z w h f. let k : Some w ≡ Some r = sym (here z w h f) ∙ e in cc k))
        at false t = sym (newest_none look xs (λ z h. off z h (look z) refl))
          where
            off : (z : A) → HasItem xs z → (o : Option A) → look z ≡ o → o ≡ None
            off z h None f = refl
            off z h (Some w) f =
                let both = some_if_some (test z) z w f in
                let k : Some w ≡ Some r = sym (here z w h f) ∙ e in
                let is : z ≡ r = both.1 ∙ (cc k) in
                absurd (let u : false ≡ true = sym t ∙ subst (λ (x : A). test x ≡ true) is both.0 in cc u)

-- the item with a key
pub placed_key : {A : Type 0} (key : A → ℕ) (xs : List A) (i k : ℕ) → IsAscending (map key xs) → IsPlaceOf k (map key xs) i
    → option_and_then (λ (x : A). some_if (key x == k) x) (slice_get xs i) ≡ newest (λ x. some_if (key x == k) x) xs
placed_key key xs i k ascending place = placed key (λ x. key x == k) xs i k ascending place (λ z h t. eqb-true (key z) k t)
