-- Sums of sizes, and the sizes of arrays and objects.
use Rattle.std.proofs.Common.{◌≡◌, ◌∙◌, ℕ, zero, suc, ◌+◌, ◌-◌, ◌^◌, ◌<◌, ◌≤◌, min, List, [], ◌∷◌, ◌++◌, length, map, sum, Option, Some, None, Ordering, Less, Equal, Greater, nat_cmp, true, refl, ap, sym, arith, length-append}
use Rattle.std.specs.Cmp.Lexicographic.{slice_cmp}
use Rattle.std.specs.Ordering.{match_ordering}
use Rattle.std.proofs.lemmas.Bool.Decides.{nat_tests}
use Rattle.std.proofs.lemmas.List.Sums.{sum_by-cons}
use Rattle.json.specs.Print.{escape, quoted}
use Rattle.serde_json.specs.Data.{Data, array, object, Items, no_items, item, Members, no_members, member, put}
use Rattle.serde_json.specs.Find.{get_member}
use Rattle.serde_json.specs.Written.{compact_text, items_text, members_text}
use Rattle.json_objects.specs.Objects.{members_onto}
use Rattle.json_objects.specs.Sizes.{capped, enclosed_size, items_size, member_size, members_size, fields_size}

-- ---- sums

min-add : (a b m : ℕ) → min (min a m + b) m ≡ min (a + b) m
min-add a b m = omega arith

pub capped-add : (a b : ℕ) → capped (capped a + b) ≡ capped (a + b)
capped-add a b = min-add a b (2 ^ 64 - 1)

min-add_right : (a b m : ℕ) → min (a + min b m) m ≡ min (a + b) m
min-add_right a b m = omega arith

pub capped-add_right : (a b : ℕ) → capped (a + capped b) ≡ capped (a + b)
capped-add_right a b = min-add_right a b (2 ^ 64 - 1)

-- sizes that are told add up as those that they tell
pub capped-sum : (xs : List ℕ) → capped (sum (map capped xs)) ≡ capped (sum xs)
capped-sum [] = refl
capped-sum (x ∷ xs) = ap capped (sum_by-cons (λ n. n) (capped x) (map capped xs)) ∙ capped-add x (sum (map capped xs))
    ∙ sym (capped-add_right x (sum (map capped xs))) ∙ ap (λ n. capped (x + n)) (capped-sum xs) ∙ capped-add_right x (sum xs)
    ∙ ap capped (sym (sum_by-cons (λ n. n) x xs))

enclosed_size-pos : (n : ℕ) → 0 < n → enclosed_size n ≡ n + 1
enclosed_size-pos n pos = grind (arith, nat_tests)

enclosed_at : (n m : ℕ) → 2 ≤ m → min (enclosed_size (min n m)) m ≡ min (enclosed_size n) m
enclosed_at zero m room = let none : min zero m ≡ zero = omega arith in rw none refl
enclosed_at (suc n) m room =
    let some : 0 < min (suc n) m = omega arith in
    rw (enclosed_size-pos (min (suc n) m) some, enclosed_size-pos (suc n) (omega arith)) (omega arith)

-- the size is told from what is told of the parts
pub capped-enclosed_size : (n : ℕ) → capped (enclosed_size (capped n)) ≡ capped (enclosed_size n)
capped-enclosed_size n = enclosed_at n (2 ^ 64 - 1) (omega arith)

-- ---- texts

pub length-quoted : (s : List ℕ) → length (quoted s) ≡ 2 + length (escape s)
length-quoted s = let l = length-append (escape s) (34 ∷ []) in omega (arith, l)

-- ---- arrays

length-items_text : (ds : Items) → length (items_text true ds) ≡ 1 + items_size ds
length-items_text no_items = refl
length-items_text (item d ds) = let l = length-append (compact_text d) (items_text true ds) in let r = length-items_text ds in omega (arith, l, r)

pub length-array : (ds : Items) → length (compact_text (array ds)) ≡ enclosed_size (items_size ds)
length-array no_items = refl
length-array (item d ds) =
    let l = length-append (compact_text d) (items_text true ds) in
    let r = length-items_text ds in
    let size : length (compact_text (array (item d ds))) ≡ items_size (item d ds) + 1 = omega (arith, l, r) in
    size ∙ sym (enclosed_size-pos (items_size (item d ds)) (omega arith))

pub told_array : (told : ℕ) (ds : Items) → told ≡ capped (items_size ds) → capped (enclosed_size told) ≡ capped (length (compact_text (array ds)))
told_array told ds is = rw is (capped-enclosed_size (items_size ds)) ∙ ap capped (sym (length-array ds))

-- ---- objects

length-member_text : (k : List ℕ) (d : Data) (ms : Members) → length (members_text true ms) ≡ 1 + members_size ms
    → length (quoted k ++ 58 ∷ (compact_text d ++ members_text true ms)) ≡ members_size (member k d ms)
length-member_text k d ms r =
    let l = length-append (quoted k) (58 ∷ (compact_text d ++ members_text true ms)) in
    let m = length-append (compact_text d) (members_text true ms) in
    omega (arith, l, m, r)

length-members_text : (ms : Members) → length (members_text true ms) ≡ 1 + members_size ms
length-members_text no_members = refl
length-members_text (member k d ms) = let r = length-member_text k d ms (length-members_text ms) in omega (arith, r)

pub length-object : (ms : Members) → length (compact_text (object ms)) ≡ enclosed_size (members_size ms)
length-object no_members = refl
length-object (member k d ms) =
    let r = length-member_text k d ms (length-members_text ms) in
    let size : length (compact_text (object (member k d ms))) ≡ members_size (member k d ms) + 1 = omega (arith, r) in
    size ∙ sym (enclosed_size-pos (members_size (member k d ms)) (omega arith))

-- ---- members that are put

put_size_at : (o : Ordering) (k l : List ℕ) (d e : Data) (ms : Members) → match_ordering o (get_member k ms) (Some e) (get_member k ms) ≡ None
    → (get_member k ms ≡ None → members_size (put k d ms) ≡ member_size k d + members_size ms)
    → members_size (match_ordering o (member k d (member l e ms)) (member l d ms) (member l e (put k d ms))) ≡ member_size k d
    + (member_size l e + members_size ms)
put_size_at Less k l d e ms none rest = refl
put_size_at Equal k l d e ms none rest = cc
put_size_at Greater k l d e ms none rest = let r = rest none in omega (arith, r)

members_size-put : (k : List ℕ) (d : Data) (ms : Members) → get_member k ms ≡ None → members_size (put k d ms) ≡ member_size k d + members_size ms
members_size-put k d no_members none = refl
members_size-put k d (member l e ms) none = put_size_at (slice_cmp nat_cmp k l) k l d e ms none (members_size-put k d ms)

-- no member has the name of a field, and no two fields have one name
abbrev pub AreNew : Members → List (List ℕ × Option Data) → Type 0
AreNew ms [] = Unit {0}
AreNew ms (f ∷ fs) = (get_member f.0 (members_onto ms fs) ≡ None) × AreNew ms fs

pub members_size-members_onto : (ms : Members) (fs : List (List ℕ × Option Data)) → AreNew ms fs
    → members_size (members_onto ms fs) ≡ fields_size fs + members_size ms
members_size-members_onto ms [] new = omega arith
members_size-members_onto ms ((k, None) ∷ fs) new = let r = members_size-members_onto ms fs new.1 in omega (arith, r)
members_size-members_onto ms ((k, Some d) ∷ fs) new =
    let r = members_size-members_onto ms fs new.1 in
    let p = members_size-put k d (members_onto ms fs) new.0 in
    omega (arith, r, p)
