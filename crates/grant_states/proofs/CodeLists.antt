-- Lists of user codes in their order.
use Rattle.std.proofs.Common.{ℕ, zero, suc, ◌≡◌, ◌⊎◌, ◌<◌, ◌≤◌, ◌+◌, ◌-◌, ◌/◌, ◌^◌, Bool, true, false, List, [], ◌∷◌, ◌++◌, length, get_or, take, drop, map, refl, sym, ◌∙◌, ap, subst, inl, inr, arith, Option, Some, None, set}
use Rattle.std.specs.Prelude.{◌==◌, ◌&&◌, slice_get, filter, not, if◌then◌else◌, is_some, option_map}
use Rattle.std.specs.List.{insert, remove, items_where_true}
use Rattle.std.proofs.lemmas.List.{length-map, length-drop, take-append-drop, get_or-drop, get_or-set_same, get_or-set_other, get_or_past, get_or_read}
use Rattle.std.proofs.lemmas.List.Edits.{length-insert, get_or-insert_below, get_or-insert_at, get_or-insert_above}
use Rattle.std.proofs.lemmas.List.Kept.{AllPairs-cons}
use Rattle.std.proofs.lemmas.List.Quantifiers.{all_pairs_remove}
use Rattle.std.proofs.lemmas.Bool.{cases_lt, cases_eq, eqb-true}
use Rattle.std.specs.Option.{option_eq}
use Rattle.std.proofs.lemmas.Slice.Eq.{bytes_eq-Decides}
use Rattle.gnap_model.specs.Common.{same_text, some_if}
use Rattle.gnap_tables.proofs.Lists.{HasItem}
use Rattle.ordered_search.specs.Order.{IsAscending, IsPlaceOf}
use Rattle.grant_states.specs.declared.numbers_by_key.Listed.{Listed}
use Rattle.grant_states.specs.Listed.{under, key_of, number_where, Ascend, where_some}
use Rattle.grant_states.proofs.Items.{item_at, item_filtered, item_of_filter, item_in, item_append, item_left, item_right, get_at, get_past}
use Rattle.grant_states.proofs.Placed.{ascending_keys, at_place, eqb-self, key_at, one_key}
use Rattle.grant_states.proofs.Changed.{removed_at}
use Rattle.grant_states.proofs.ListedNumbers.{picked_item}

pub codes_ascend : (slice listed : List Listed) → slice ≡ listed → Ascend listed → IsAscending (map key_of slice)
codes_ascend slice listed same ascend = subst (λ (os : List Listed). IsAscending (map key_of os)) (sym same) (ascending_keys key_of listed ascend)

-- both are none, or the same code
pub same_codes : (a b : Option (List ℕ)) → option_eq same_text a b ≡ true → a ≡ b
same_codes None None e = refl
same_codes None (Some b) e = cc e
same_codes (Some a) None e = cc e
same_codes (Some a) (Some b) e = ap (λ (text : List ℕ). Some text) ((bytes_eq-Decides a b).0 e)

-- ---- the number at a place

pub number_here : (code number : ℕ) → number_where code (Some (under code number)) ≡ Some number
number_here code number = rw (eqb-self code) refl

-- there is a number where what is there has the key
pub number_there : (key : ℕ) (there : Option Listed) → is_some (number_where key there) ≡ where_some (λ (one : Listed). one.key == key) there
number_there key None = refl
number_there key (Some one) = by (one.key == key)
  where
    by : (b : Bool) → is_some (option_map (λ (o : Listed). o.number) (some_if b one)) ≡ b
    by true = refl
    by false = refl

-- ---- a code is put in

inserted_ascend : (xs : List Listed) (at : ℕ) (y : Listed) → Ascend xs → at ≤ length xs → ((k : ℕ) (d : Listed) → k < at → (get_or xs k d).key < y.key)
    → ((k : ℕ) (d : Listed) → at ≤ k → k < length xs → y.key < (get_or xs k d).key) → Ascend (insert xs at y)
inserted_ascend xs at y ascend inside low high i j d lt jn =
    let many = length-insert xs at y inside in
    pick (cases_lt i at) (cases_lt at i) (cases_lt j at) (cases_lt at j) (omega (arith, many, jn))
  where
    here : ℕ → ℕ
    here k = (get_or (insert xs at y) k d).key

    was : ℕ → ℕ
    was k = (get_or xs k d).key

    before : (k : ℕ) → k < at → here k ≡ was k
    before k less = ap (λ (one : Listed). one.key) (get_or-insert_below xs at y d k less inside)

    own : (k : ℕ) → k ≡ at → here k ≡ y.key
    own k is = ap here is ∙ ap (λ (one : Listed). one.key) (get_or-insert_at xs at y d inside)

    behind : (k : ℕ) → at < k → here k ≡ was (k - 1)
    behind k more =
        let is : k ≡ k - 1 + 1 = omega (arith, more) in
        ap here is ∙ ap (λ (one : Listed). one.key) (get_or-insert_above xs at y d (k - 1) (omega (arith, more)) inside)

    pick : (i < at) ⊎ (at ≤ i) → (at < i) ⊎ (i ≤ at) → (j < at) ⊎ (at ≤ j) → (at < j) ⊎ (j ≤ at) → j < length xs + 1 → here i < here j
    pick (inl a) b (inl c) e jl =
        let x = before i a in
        let z = before j c in
        let p = ascend i j d lt (omega (arith, c, inside)) in omega (arith, x, z, p)
    pick (inl a) b (inr c) (inl e) jl =
        let x = before i a in
        let z = behind j e in
        let p = ascend i (j - 1) d (omega (arith, a, e)) (omega (arith, jl, e)) in omega (arith, x, z, p)
    pick (inl a) b (inr c) (inr e) jl =
        let x = before i a in
        let z = own j (omega (arith, c, e)) in
        let p = low i d a in omega (arith, x, z, p)
    pick (inr a) (inl b) c (inl e) jl =
        let x = behind i b in
        let z = behind j e in
        let p = ascend (i - 1) (j - 1) d (omega (arith, lt, b)) (omega (arith, jl, e)) in omega (arith, x, z, p)
    pick (inr a) (inl b) c (inr e) jl = absurd (omega (arith, b, e, lt))
    pick (inr a) (inr b) c (inl e) jl =
        let x = own i (omega (arith, a, b)) in
        let z = behind j e in
        let p = high (j - 1) d (omega (arith, e)) (omega (arith, jl, e)) in omega (arith, x, z, p)
    pick (inr a) (inr b) c (inr e) jl = absurd (omega (arith, a, b, e, lt))

pub place_within : (slice : List Listed) (at code : ℕ) → IsPlaceOf code (map key_of slice) at → at ≤ length slice
place_within slice at code place = let many = length-map slice key_of in let low = place.within in omega (arith, many, low)

-- a code that doesn't stand at its place is put in there
pub put_ascend : (slice again listed : List Listed) (at code number : ℕ) → slice ≡ listed → again ≡ listed → Ascend listed
    → IsPlaceOf code (map key_of slice) at
    → false ≡ where_some (λ (one : Listed). one.key == code) (slice_get again at) → Ascend (insert listed at (under code number))
put_ascend slice again listed at code number same also ascend placed absent = inserted_ascend listed at (under code number) ascend inside
    (λ k d less.
    let low = place.below k less in
    let is = key_at key_of listed k d (omega (arith, less, inside)) in omega (arith, low, is))
    (λ k d le less. above k d le less (cases_lt at k))
  where
    place : IsPlaceOf code (map key_of listed) at
    place = subst (λ (os : List Listed). IsPlaceOf code (map key_of os) at) same placed

    inside : at ≤ length listed
    inside = place_within listed at code place

    other : (d : Listed) → at < length listed → (get_or listed at d).key ≡ code → ⊥
    other d less is =
        let t : false ≡ where_some (λ (one : Listed). one.key == code) (slice_get listed at) = absent
        ∙ ap (λ (os : List Listed). where_some (λ (one : Listed). one.key == code) (slice_get os at)) also in
        let u : false ≡ ((get_or listed at d).key == code) = t ∙ ap (where_some (λ (one : Listed). one.key == code)) (get_at listed at d less) in
        let v : false ≡ true = u ∙ ap (λ n. n == code) is ∙ eqb-self code in cc v

    least : (k : ℕ) (d : Listed) → at ≤ k → k < length listed → code ≤ (get_or listed k d).key
    least k d le less =
        let many = length-map listed key_of in
        let high = place.above k le (omega (arith, many, less)) in
        let is = key_at key_of listed k d less in omega (arith, high, is)

    apart : (n : ℕ) → code ≤ n → (n ≡ code → ⊥) → code < n
    apart n le never = elim (cases_lt code n) [ inl lt ↦ lt | inr ge ↦ absurd (never (omega (arith, le, ge))) ]

    above : (k : ℕ) (d : Listed) → at ≤ k → k < length listed → (at < k) ⊎ (k ≤ at) → code < (get_or listed k d).key
    above k d le less (inl more) =
        let first = least at d (omega arith) (omega (arith, le, less)) in
        let next = ascend at k d more less in omega (arith, first, next)
    above k d le less (inr ge) =
        let is : at ≡ k = omega (arith, le, ge) in
        apart (get_or listed k d).key (least k d le less) (λ e. other d (omega (arith, is, less)) (ap (λ n. (get_or listed n d).key) is ∙ e))

pub item_of_insert : (xs : List Listed) (at : ℕ) (y z : Listed) → HasItem (insert xs at y) z → HasItem xs z ⊎ (z ≡ y)
item_of_insert xs at y z h = elim (item_append (take at xs) (y ∷ drop at xs) z h) [
  | inl a ↦ inl (whole (item_left (take at xs) (drop at xs) z a))
  | inr b ↦ elim b [ inl e ↦ inr e | inr c ↦ inl (whole (item_right (take at xs) (drop at xs) z c)) ]
]
  where
    whole : HasItem (take at xs ++ drop at xs) z → HasItem xs z
    whole m = subst (λ (ys : List Listed). HasItem ys z) (take-append-drop at xs) m

-- ---- a code is taken out

-- what stands at a place with this code and this grant
pub at_code : (slice listed : List Listed) (at code number : ℕ) → slice ≡ listed
    → true ≡ where_some (λ (one : Listed). (one.key == code) && (one.number == number)) (slice_get slice at)
    → (at < length listed) × ((d : Listed) → get_or listed at d ≡ under code number)
at_code slice listed at code number same there = inside (cases_lt at (length listed))
  where
    both : (a b : Bool) → true ≡ (a && b) → (a ≡ true) × (b ≡ true)
    both true true e = (refl, refl)
    both true false e = cc e
    both false b e = cc e

    test : Listed → Bool
    test one = (one.key == code) && (one.number == number)

    told : true ≡ where_some test (slice_get listed at)
    told = there ∙ ap (λ (os : List Listed). where_some test (slice_get os at)) same

    inside : (at < length listed) ⊎ (length listed ≤ at) → (at < length listed) × ((d : Listed) → get_or listed at d ≡ under code number)
    inside (inl lt) = (
      lt,
      λ d.
          let p = both ((get_or listed at d).key == code) ((get_or listed at d).number == number) (told ∙ ap (where_some test) (get_at listed at d lt)) in
          let k = eqb-true (get_or listed at d).key code p.0 in
          let n = eqb-true (get_or listed at d).number number p.1 in
          ap (λ c. under c (get_or listed at d).number) k ∙ ap (under code) n,
    )
    inside (inr le) = let k : true ≡ false = told ∙ ap (where_some test) (get_past listed at le) in cc k

-- what stays where the item at a place goes
pub taken_at : (listed : List Listed) (at code number : ℕ) → Ascend listed → at < length listed → ((d : Listed) → get_or listed at d ≡ under code number)
    → remove listed at ≡ filter (λ (one : Listed). not (code == one.key)) listed
taken_at listed at code number ascend inside is = removed_at key_of listed at code (under code number) ascend inside (ap key_of (is (under code number)))

pub taken_gone : (listed : List Listed) (code number : ℕ) → HasItem (filter (λ (one : Listed). not (code == one.key)) listed) (under code number) → ⊥
taken_gone listed code number h =
    let r = item_of_filter (λ (one : Listed). not (code == one.key)) listed (under code number) h in
    let k : false ≡ true = sym (ap not (eqb-self code)) ∙ r.1 in cc k

pub taken_kept : (listed : List Listed) (at code number : ℕ) (one : Listed) → Ascend listed → at < length listed
    → ((d : Listed) → get_or listed at d ≡ under code number) → HasItem listed one → (one ≡ under code number → ⊥)
    → HasItem (filter (λ (one : Listed). not (code == one.key)) listed) one
taken_kept listed at code number one ascend inside is h other = item_filtered (λ (o : Listed). not (code == o.key)) listed one h (by (code == one.key) refl)
  where
    there : HasItem listed (under code number)
    there = subst (HasItem listed) (is (under code number)) (item_in listed at (under code number) inside)

    by : (b : Bool) → (code == one.key) ≡ b → not (code == one.key) ≡ true
    by true e = absurd (other (one_key key_of listed one (under code number) ascend h there (sym (eqb-true code one.key e))))
    by false e = ap not e

pub taken_ascend : (listed : List Listed) (at : ℕ) → Ascend listed → at < length listed → Ascend (remove listed at)
taken_ascend listed at ascend inside = all_pairs_remove (λ (a b : Listed). a.key < b.key) listed at inside ascend

-- nothing stands there with this code and this grant
pub none_taken : (slice again listed : List Listed) (at code number : ℕ) → slice ≡ listed → again ≡ listed → Ascend listed
    → IsPlaceOf code (map key_of slice) at
    → false ≡ where_some (λ (one : Listed). (one.key == code) && (one.number == number)) (slice_get again at) → HasItem listed (under code number) → ⊥
none_taken slice again listed at code number same also ascend place absent h =
    let there : slice_get slice at ≡ Some (under code number) =
    at_place key_of slice at code (under code number) (codes_ascend slice listed same ascend) place
    (subst (λ (os : List Listed). HasItem os (under code number)) (sym same) h) refl in
    let here : slice_get again at ≡ Some (under code number) = ap (λ (os : List Listed). slice_get os at) (also ∙ sym same) ∙ there in
    let t : false ≡ ((code == code) && (number == number)) = absent ∙ ap (where_some (λ (one : Listed). (one.key == code) && (one.number == number))) here in
    let u : false ≡ true = t ∙ both in cc u
  where
    both : ((code == code) && (number == number)) ≡ true
    both = rw (eqb-self code, eqb-self number) refl

-- ---- what passes stays in order

pub picked_ascend : (bs : List Bool) (xs : List Listed) → Ascend xs → Ascend (items_where_true bs xs)
picked_ascend [] xs ascend = λ i j d lt jn. absurd (omega (arith, jn))
picked_ascend (b ∷ bs) [] ascend = λ i j d lt jn. absurd (omega (arith, jn))
picked_ascend (true ∷ bs) (x ∷ xs) ascend =
    AllPairs-cons (λ (a b : Listed). a.key < b.key) x (items_where_true bs xs)
    (λ k d inside. first (get_or (items_where_true bs xs) k d)
    (picked_item bs xs (get_or (items_where_true bs xs) k d) (item_in (items_where_true bs xs) k d inside)))
    (picked_ascend bs xs (λ i j d lt jn. ascend (suc i) (suc j) d (omega arith) (omega arith)))
  where
    first : (z : Listed) → HasItem xs z → x.key < z.key
    first z h =
        let p = item_at xs z h in
        let inside : p.0 < length xs = p.1 in
        let low : x.key < (get_or xs p.0 z).key = ascend 0 (suc p.0) z (omega arith) (omega (arith, inside)) in
        let same = ap (λ (one : Listed). one.key) (p.2 z) in omega (arith, low, same)
picked_ascend (false ∷ bs) (x ∷ xs) ascend = picked_ascend bs xs (λ i j d lt jn. ascend (suc i) (suc j) d (omega arith) (omega arith))

-- ---- codes one after another

-- what stands at a place with this key
pub at_key : (items : List Listed) (at key : ℕ) → true ≡ where_some (λ (one : Listed). one.key == key) (slice_get items at)
    → (at < length items) × (d : Listed) × ((get_or items at d).key ≡ key)
at_key items at key there = inside (cases_lt at (length items)) (slice_get items at) refl
  where
    inside : (at < length items) ⊎ (length items ≤ at) → (o : Option Listed) → slice_get items at ≡ o
        → (at < length items) × (d : Listed) × ((get_or items at d).key ≡ key)
    inside (inl lt) None e = let k : None ≡ Some (get_or items at (under 0 0)) = sym e ∙ get_at items at (under 0 0) lt in cc k
    inside (inl lt) (Some one) e =
        let same : Some one ≡ Some (get_or items at one) = sym e ∙ get_at items at one lt in
        let here : one ≡ get_or items at one = cc same in
        let t : true ≡ (one.key == key) = there ∙ ap (where_some (λ (o : Listed). o.key == key)) e in
        let is : one.key ≡ key = eqb-true one.key key (sym t) in
        (lt, one, ap (λ (o : Listed). o.key) (sym here) ∙ is)
    inside (inr le) o e = let k : true ≡ false = there ∙ ap (where_some (λ (o : Listed). o.key == key)) (get_past items at le) in cc k

-- a key is greater by as many as there are places between at least
climbs : (xs : List Listed) (d : Listed) → Ascend xs → (i n : ℕ) → i + n < length xs → (get_or xs i d).key + n ≤ (get_or xs (i + n) d).key
climbs xs d ascend i zero inside =
    let is : i ≡ i + 0 = omega arith in
    let k = ap (λ m. (get_or xs m d).key) is in omega (arith, k)
climbs xs d ascend i (suc n) inside =
    let before = climbs xs d ascend i n (omega (arith, inside)) in
    let step = ascend (i + n) (i + suc n) d (omega arith) inside in omega (arith, before, step)

-- where a key is greater than the first one by as many as stand between, each of those between is there
pub run_there : (items : List Listed) (key middle : ℕ) (d : Listed) → Ascend items → ((one : Listed) → HasItem items one → key ≤ one.key)
    → middle < length items → (get_or items middle d).key ≡ key + middle
    → (k : ℕ) → key ≤ k → k < key + (middle + 1) → (number : ℕ) × HasItem items (under k number)
run_there items key middle d ascend from inside is k le lt =
    let i : ℕ = k - key in
    let up : i + (middle - i) ≡ middle = omega (arith, le, lt) in
    let own : Listed = get_or items i d in
    let first = from (get_or items 0 d) (item_in items 0 d (omega (arith, inside))) in
    let low = climbs items d ascend 0 i (omega (arith, lt, le, inside)) in
    let zero_up : 0 + i ≡ i = omega arith in
    let low_at = ap (λ m. (get_or items m d).key) zero_up in
    let high = climbs items d ascend i (middle - i) (omega (arith, up, inside)) in
    let high_at = ap (λ m. (get_or items m d).key) up in
    let mine : own.key ≡ k = omega (arith, first, low, low_at, high, high_at, is, le, lt) in (
      own.number,
      subst (λ n. HasItem items (under n own.number)) mine (item_in items i d (omega (arith, lt, le, inside))),
    )

-- the keys from the place of a key on are no lower
pub from_place : (slice : List Listed) (at key : ℕ) → IsPlaceOf key (map key_of slice) at → (one : Listed) → HasItem (drop at slice) one → key ≤ one.key
from_place slice at key place one h =
    let p = item_at (drop at slice) one h in
    let many = length-drop at slice in
    let inside : p.0 < length (drop at slice) = p.1 in
    let whole = length-map slice key_of in
    let high = place.above (at + p.0) (omega arith) (omega (arith, whole, many, inside)) in
    let is = key_at key_of slice (at + p.0) one (omega (arith, many, inside)) in
    let there : get_or (drop at slice) p.0 one ≡ get_or slice (at + p.0) one = get_or-drop at slice p.0 one in
    let same = ap (λ (o : Listed). o.key) (sym there ∙ p.2 one) in omega (arith, high, is, same)

pub dropped_ascend : (slice : List Listed) (at : ℕ) → Ascend slice → Ascend (drop at slice)
dropped_ascend slice at ascend i j d lt jn =
    let many = length-drop at slice in
    let a = ap (λ (o : Listed). o.key) (get_or-drop at slice i d) in
    let b = ap (λ (o : Listed). o.key) (get_or-drop at slice j d) in
    let p = ascend (at + i) (at + j) d (omega (arith, lt)) (omega (arith, many, jn)) in omega (arith, a, b, p)

pub item_dropped : (slice : List Listed) (at : ℕ) (one : Listed) → HasItem (drop at slice) one → HasItem slice one
item_dropped slice at one h = subst (λ (os : List Listed). HasItem os one) (take-append-drop at slice) (item_right (take at slice) (drop at slice) one h)

-- ---- one list of several

-- a list that is empty, behind the others, is no other than none
pub padded : (lists : List (List Listed)) (i : ℕ) → get_or (lists ++ [] ∷ []) i [] ≡ get_or lists i []
padded [] zero = refl
padded [] (suc i) = refl
padded (x ∷ xs) zero = refl
padded (x ∷ xs) (suc i) = padded xs i

pub pushed_list : (b : Bool) (lists more : List (List Listed)) (list : List Listed) → list ≡ [] → more ≡ (if b then lists ++ list ∷ [] else lists) → (i : ℕ)
    → get_or more i [] ≡ get_or lists i []
pushed_list true lists more list none is i = ap (λ (ls : List (List Listed)). get_or ls i []) is
    ∙ ap (λ (os : List Listed). get_or (lists ++ os ∷ []) i []) none ∙ padded lists i
pushed_list false lists more list none is i = ap (λ (ls : List (List Listed)). get_or ls i []) is

-- where one list is another one now, each is as it was, or is this one
pub one_list : (lists : List (List Listed)) (at i : ℕ) (new : List Listed) → at < length lists
    → ((i ≡ at) × (get_or (set lists at new) i [] ≡ new)) ⊎ ((i ≡ at → ⊥) × (get_or (set lists at new) i [] ≡ get_or lists i []))
one_list lists at i new inside = elim (cases_eq i at) [
  | inl is ↦ inl (is, ap (λ n. get_or (set lists at new) n []) is ∙ get_or-set_same lists at new [] inside)
  | inr other ↦ inr (other, get_or-set_other lists at i new [] other)
]

pub got_list : (lists : List (List Listed)) (i : ℕ) (list : List Listed) → slice_get lists i ≡ Some list → get_or lists i [] ≡ list
got_list [] i list e = cc e
got_list (x ∷ xs) zero list e = cc e
got_list (x ∷ xs) (suc i) list e = got_list xs i list e

pub got_none : (lists : List (List Listed)) (i : ℕ) → slice_get lists i ≡ None → get_or lists i [] ≡ []
got_none [] i e = refl
got_none (x ∷ xs) zero e = cc e
got_none (x ∷ xs) (suc i) e = got_none xs i e

-- a grant is listed under a code in the list of the code's letter
abbrev pub HasIn : List (List Listed) → ℕ → ℕ → Type 0
HasIn lists code number = HasItem (get_or lists (code / 20 ^ 7) []) (under code number)

-- the old list stands at the place, and the new one comes to stand there
module _ (lists : List (List Listed)) (at listed number : ℕ) (old new : List Listed) (inside : at < length lists) (read : old ≡ get_or lists at old) where
  is_old : old ≡ get_or lists at []
  is_old = get_or_read lists at old inside read []

  was_in : (n other : ℕ) → n / 20 ^ 7 ≡ at → HasItem old (under n other) → HasIn lists n other
  was_in n other e h = subst (λ (os : List Listed). HasItem os (under n other)) (is_old ∙ ap (λ k. get_or lists k []) (sym e)) h

  in_was : (n other : ℕ) → n / 20 ^ 7 ≡ at → HasIn lists n other → HasItem old (under n other)
  in_was n other e h = subst (λ (os : List Listed). HasItem os (under n other)) (sym (is_old ∙ ap (λ k. get_or lists k []) (sym e))) h

  pub take_kept : ((one : Listed) → HasItem old one → (one ≡ under listed number → ⊥) → HasItem new one) → (n other : ℕ) → HasIn lists n other
      → (other ≡ number → ⊥) → HasIn (set lists at new) n other
  take_kept kept n other h never = elim (one_list lists at (n / 20 ^ 7) new inside) [
    | inl e ↦ subst (λ (os : List Listed). HasItem os (under n other)) (sym e.1)
        (kept (under n other) (in_was n other e.0 h) (λ same. never (ap (λ (one : Listed). one.number) same)))
    | inr e ↦ subst (λ (os : List Listed). HasItem os (under n other)) (sym e.1) h
  ]

  pub take_only : ((one : Listed) → HasItem new one → HasItem old one) → (n other : ℕ) → HasIn (set lists at new) n other → HasIn lists n other
  take_only only n other h = elim (one_list lists at (n / 20 ^ 7) new inside) [
    | inl e ↦ was_in n other e.0 (only (under n other) (subst (λ (os : List Listed). HasItem os (under n other)) e.1 h))
    | inr e ↦ subst (λ (os : List Listed). HasItem os (under n other)) e.1 h
  ]

  pub take_gone : listed / 20 ^ 7 ≡ at → (HasItem new (under listed number) → ⊥) → HasIn (set lists at new) listed number → ⊥
  take_gone mine gone h = elim (one_list lists at (listed / 20 ^ 7) new inside) [
    | inl e ↦ gone (subst (λ (os : List Listed). HasItem os (under listed number)) e.1 h)
    | inr e ↦ e.0 mine
  ]

  pub put_kept : ((one : Listed) → HasItem old one → HasItem new one) → (n other : ℕ) → HasIn lists n other → HasIn (set lists at new) n other
  put_kept kept n other h = elim (one_list lists at (n / 20 ^ 7) new inside) [
    | inl e ↦ subst (λ (os : List Listed). HasItem os (under n other)) (sym e.1) (kept (under n other) (in_was n other e.0 h))
    | inr e ↦ subst (λ (os : List Listed). HasItem os (under n other)) (sym e.1) h
  ]

  pub put_only : ((one : Listed) → HasItem new one → HasItem old one ⊎ (one ≡ under listed number)) → (n other : ℕ) → HasIn (set lists at new) n other
      → HasIn lists n other ⊎ ((other ≡ number) × (n ≡ listed))
  put_only only n other h = elim (one_list lists at (n / 20 ^ 7) new inside) [
    | inl e ↦ elim (only (under n other) (subst (λ (os : List Listed). HasItem os (under n other)) e.1 h)) [
      | inl m ↦ inl (was_in n other e.0 m)
      | inr same ↦ inr (ap (λ (one : Listed). one.number) same, ap (λ (one : Listed). one.key) same)
    ]
    | inr e ↦ inl (subst (λ (os : List Listed). HasItem os (under n other)) e.1 h)
  ]

  pub put_listed : listed / 20 ^ 7 ≡ at → HasItem new (under listed number) → HasIn (set lists at new) listed number
  put_listed mine h = elim (one_list lists at (listed / 20 ^ 7) new inside) [
    | inl e ↦ subst (λ (os : List Listed). HasItem os (under listed number)) (sym e.1) h
    | inr e ↦ absurd (e.0 mine)
  ]

-- no grant is listed under a code whose letter has no list
pub none_in : (lists : List (List Listed)) (code number : ℕ) → length lists ≤ code / 20 ^ 7 → HasIn lists code number → ⊥
none_in lists code number past h = subst (λ (os : List Listed). HasItem os (under code number)) (get_or_past lists (code / 20 ^ 7) [] past) h
