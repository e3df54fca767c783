-- Trees under texts: what a change at one text leaves at any other, and what it makes of the nonces.
use Rattle.std.proofs.Common.{Ordering, Less, Equal, Greater, ◌≡◌, ◌∙◌, ℕ, ◌+◌, ◌≤◌, Bool, true, false, true≢false, cond, ◌&&◌, not, nat_le, List, refl, ap, sym, arith, Result, Ok, Err, subst, ◌∷◌, OnOk, OnErr, IfSome, is_some, [], Option, Some, None, if◌then◌else◌}
use Rattle.std.specs.Option.{option_and_then, option_map, unwrap_or}
use Rattle.std.specs.List.{sum_by, All}
use Rattle.std.specs.List.Sorted.{IsStrictlySortedBy}
use Rattle.std.proofs.lemmas.List.Elements.{All-head, All-tail, All-weaker}
use Rattle.std.proofs.lemmas.Map.Keys.{IsDistinct-from_sorted}
use Rattle.std.proofs.lemmas.Map.Views.{All-values-set_value, All-values-insert_entry, All-values_from_lookup, IfSome-lookup_from_All}
use Rattle.std.specs.Str.{bytes_eq}
use Rattle.std.specs.Ordering.{is_eq, nat_cmp, eq_by_cmp, ordering_then}
use Rattle.std.specs.Cmp.{IsTotalOrder, eq_by_cmp_equiv, on_total, then_total, tied_itself, nat_cmp_total}
use Rattle.std.specs.Cmp.Lexicographic.{slice_cmp, nat_list_cmp_total}
use Rattle.std.specs.Map.{lookup, IsKeyTest, AreApart, KeepsOthers, values_of, keys_of, set_value, remove_entry}
use Rattle.std.specs.BTreeMap.{BTreeMap, is_at, get, get_by, insert_entry, Updates, IsOrdered}
use Rattle.std.proofs.lemmas.Bool.{le-leb, lt-leb, leb-false}
use Rattle.std.proofs.lemmas.List.Sums.{sum_by-cons}
use Rattle.std.proofs.lemmas.Slice.Eq.{bytes_eq-Decides}
use Rattle.std.proofs.lemmas.Map.Text.{is_eq-slice_cmp}
use Rattle.std.proofs.lemmas.Map.Entries.{sum_by-set_value, sum_by-insert_entry, sum_by-remove_entry}
use Rattle.signed_calls.specs.Remembering.{is_live_at}
use Rattle.nonce_store.specs.declared.texts.Text.{Text}
use Rattle.nonce_store.specs.Texts.{head_of}
use Rattle.nonce_store.specs.Kept.{Untils, Keys, text_cmp, under, until_in, is_over_at, many_of, many_in, text_order, AreOrdered}

pub text_total : IsTotalOrder text_order
text_total = then_total (on_total (λ (v : Text). v.head) nat_cmp_total) (on_total (λ (v : Text). v.bytes.items) nat_list_cmp_total)

-- ---- a text's head follows from its bytes, so a look-up by the bytes finds the same

text_cmp_of : (key kept : Text) → text_cmp key.bytes.items kept ≡ text_order key kept
text_cmp_of key kept =
    ap (λ h. ordering_then (nat_cmp h kept.head) (slice_cmp nat_cmp key.bytes.items kept.bytes.items)) (sym key.headed)

found : {X : Type 0} (tree : BTreeMap Text X) (key : Text) → under tree key.bytes.items ≡ get text_order tree key
found {X} tree key =
    ap (λ h. get_by (λ (k : Text). ordering_then (nat_cmp h k.head) (slice_cmp nat_cmp key.bytes.items k.bytes.items)) tree) (sym key.headed)

-- up to when the nonces of a key that is there are remembered
pub until_is : (keys : Keys) (key : Text) (untils : Untils) (n : List ℕ) → get text_order keys key ≡ Some untils
    → until_in keys key.bytes.items n ≡ under untils n
until_is keys key untils n there = ap (option_and_then (λ (u : Untils). under u n)) (found keys key ∙ there)

untied : (first second : Ordering) → is_eq second ≡ false → is_eq (ordering_then first second) ≡ false
untied Less second is = refl
untied Equal second is = is
untied Greater second is = refl

is_eq-text_cmp : (text : List ℕ) (key : Text) → is_eq (text_cmp text key) ≡ bytes_eq text key.bytes.items
is_eq-text_cmp text key = by (bytes_eq text key.bytes.items) refl
  where
    by : (b : Bool) → bytes_eq text key.bytes.items ≡ b → is_eq (text_cmp text key) ≡ bytes_eq text key.bytes.items
    by true t =
        let head : head_of text ≡ key.head = ap head_of ((bytes_eq-Decides text key.bytes.items).0 t) ∙ sym key.headed in
        ap (λ o. is_eq (ordering_then o (slice_cmp nat_cmp text key.bytes.items))) (ap (λ h. nat_cmp h key.head) head ∙ tied_itself nat_cmp_total key.head)
        ∙ is_eq-slice_cmp text key.bytes.items
    by false t = untied (nat_cmp (head_of text) key.head) (slice_cmp nat_cmp text key.bytes.items) (is_eq-slice_cmp text key.bytes.items ∙ t) ∙ sym t

is_eq-text_order : (key kept : Text) → is_eq (text_order key kept) ≡ bytes_eq key.bytes.items kept.bytes.items
is_eq-text_order key kept = sym (ap is_eq (text_cmp_of key kept)) ∙ is_eq-text_cmp key.bytes.items kept

other_entries : {K X : Type 0} (eq : K → K → Bool) (test : K → Bool) (old new : List (K × X)) → KeepsOthers eq test old new
    → (other : K → Bool) → IsKeyTest eq other → AreApart test other → lookup other new ≡ lookup other old
unfolding KeepsOthers
other_entries eq test old new keeps = keeps

flipped : (text q : List ℕ) (b : Bool) → bytes_eq text q ≡ false → bytes_eq q text ≡ b → bytes_eq q text ≡ false
flipped text q true other t = absurd (true≢false (sym ((bytes_eq-Decides text q).1 (sym ((bytes_eq-Decides q text).0 t))) ∙ other))
flipped text q false other t = t

apart : (key kept : Text) (q : List ℕ) → bytes_eq key.bytes.items q ≡ false → is_eq (text_order key kept) ≡ true → is_eq (text_cmp q kept) ≡ false
apart key kept q other same =
    let is : key.bytes.items ≡ kept.bytes.items = (bytes_eq-Decides key.bytes.items kept.bytes.items).0 (sym (is_eq-text_order key kept) ∙ same) in
    is_eq-text_cmp q kept ∙ sym (ap (bytes_eq q) is) ∙ flipped key.bytes.items q (bytes_eq q key.bytes.items) other refl

tests_keys : (q : List ℕ) → IsKeyTest (eq_by_cmp text_order) (λ (key : Text). is_eq (text_cmp q key))
tests_keys q x y same =
    let is : q ≡ x.bytes.items = (bytes_eq-Decides q x.bytes.items).0 (sym (is_eq-text_cmp q x) ∙ same) in
    ap (λ text. is_eq (text_cmp text y)) is ∙ ap is_eq (text_cmp_of x y)

-- one text takes another value
pub under_after : {X : Type 0} (old new : BTreeMap Text X) (key : Text) (value : Option X) → Updates text_order old new key value
    → (q : List ℕ) → under new q ≡ cond (bytes_eq key.bytes.items q) value (under old q)
under_after {X} old new key value updates q = by (bytes_eq key.bytes.items q) refl
  where
    by : (b : Bool) → bytes_eq key.bytes.items q ≡ b → under new q ≡ cond b value (under old q)
    by true t = sym (ap (under new) ((bytes_eq-Decides key.bytes.items q).0 t)) ∙ found new key ∙ updates.1
    by false t = other_entries (eq_by_cmp text_order) (is_at (text_order key)) old.entries new.entries updates.3
        (λ kept. is_eq (text_cmp q kept)) (tests_keys q) (λ kept. apart key kept q t)

-- of one key a nonce takes another moment
pub until_after : (old new : Keys) (key nonce : List ℕ) (untils : Untils) (until : Option ℕ)
    → ((q : List ℕ) → under new q ≡ cond (bytes_eq key q) (Some untils) (under old q))
    → ((q : List ℕ) → under untils q ≡ cond (bytes_eq nonce q) until (until_in old key q))
    → (k n : List ℕ) → until_in new k n ≡ cond (bytes_eq key k && bytes_eq nonce n) until (until_in old k n)
until_after old new key nonce untils until keys_are nonces_are k n =
    ap (option_and_then (λ (u : Untils). under u n)) (keys_are k) ∙ by (bytes_eq key k) refl
  where
    by : (b : Bool) → bytes_eq key k ≡ b
        → option_and_then (λ (u : Untils). under u n) (cond b (Some untils) (under old k)) ≡ cond (b && bytes_eq nonce n) until (until_in old k n)
    by true t = nonces_are n ∙ ap (λ (x : List ℕ). cond (bytes_eq nonce n) until (until_in old x n)) ((bytes_eq-Decides key k).0 t)
    by false t = refl

-- of one key nothing changes
pub until_same : (old new : Keys) (key : Text) (was untils : Untils)
    → ((q : List ℕ) → under new q ≡ cond (bytes_eq key.bytes.items q) (Some untils) (under old q)) → get text_order old key ≡ Some was
    → untils.entries ≡ was.entries → (k n : List ℕ) → until_in new k n ≡ until_in old k n
until_same old new key was untils keys_are there same k n =
    ap (option_and_then (λ (u : Untils). under u n)) (keys_are k) ∙ by (bytes_eq key.bytes.items k) refl
  where
    by : (b : Bool) → bytes_eq key.bytes.items k ≡ b → option_and_then (λ (u : Untils). under u n) (cond b (Some untils) (under old k)) ≡ until_in old k n
    by true t = ap (lookup (λ (v : Text). is_eq (text_cmp n v))) same
        ∙ sym (until_is old key was n there) ∙ ap (λ (q : List ℕ). until_in old q n) ((bytes_eq-Decides key.bytes.items k).0 t)
    by false t = refl

-- ---- a sum over the values

pub sum_inserted : {X : Type 0} (f : X → ℕ) (old new : BTreeMap Text X) (key : Text) (value : X) → IsOrdered text_order old
    → new.entries ≡ insert_entry text_order old.entries key value → under old key.bytes.items ≡ None
    → sum_by f (values_of new.entries) ≡ sum_by f (values_of old.entries) + f value
sum_inserted {X} f old new key value ordered is none =
    let sums = sum_by-insert_entry f text_total old.entries key value ordered in
    let new_is : sum_by f (values_of new.entries)
    ≡ sum_by f (values_of (insert_entry text_order old.entries key value)) = ap (λ (es : List (Text × X)). sum_by f (values_of es)) is in
    let nothing : unwrap_or (option_map f (lookup (is_at (text_order key)) old.entries)) 0 ≡ 0
    = ap (λ (o : Option X). unwrap_or (option_map f o) 0) (sym (found old key) ∙ none) in
    omega (arith, sums, new_is, nothing)

pub sum_written : {X : Type 0} (f : X → ℕ) (old new : BTreeMap Text X) (key : Text) (was value : X)
    → new.entries ≡ set_value (is_at (text_order key)) old.entries value → get text_order old key ≡ Some was
    → sum_by f (values_of new.entries) + f was ≡ sum_by f (values_of old.entries) + f value
sum_written {X} f old new key was value is there =
    ap (λ (es : List (Text × X)). sum_by f (values_of es) + f was) is ∙ sum_by-set_value f (is_at (text_order key)) old.entries was value there

pub sum_removed : {X : Type 0} (f : X → ℕ) (old new : BTreeMap Text X) (key : Text)
    → new.entries ≡ remove_entry (is_at (text_order key)) old.entries
    → sum_by f (values_of new.entries) + unwrap_or (option_map f (get text_order old key)) 0 ≡ sum_by f (values_of old.entries)
sum_removed {X} f old new key is =
    ap (λ (es : List (Text × X)). sum_by f (values_of es) + unwrap_or (option_map f (get text_order old key)) 0) is
    ∙ sum_by-remove_entry f (is_at (text_order key)) old.entries

-- ---- the trees of keys and nonces

pub on_ok_map : {A E : Type 0} (r : Result A E) (P Q : Type 0) → (P → Q) → OnOk r P → OnOk r Q
on_ok_map (Ok x) P Q more is = more is
on_ok_map (Err e) P Q more is = tt

pub on_err_map : {A E : Type 0} (r : Result A E) (P Q : Type 0) → (P → Q) → OnErr r P → OnErr r Q
on_err_map (Ok x) P Q more is = tt
on_err_map (Err e) P Q more is = more is

pub on_err_always : {A E : Type 0} (r : Result A E) (P : Type 0) → P → OnErr r P
on_err_always (Ok x) P is = tt
on_err_always (Err e) P is = is

-- a key that is there takes other nonces
pub until_set : (keys new : Keys) (key nonce : Text) (was untils : Untils) (until : Option ℕ) → get text_order keys key ≡ Some was
    → Updates text_order keys new key (Some untils)
    → ((n : List ℕ) → under untils n ≡ cond (bytes_eq nonce.bytes.items n) until (under was n))
    → (k n : List ℕ) → until_in new k n ≡ cond (bytes_eq key.bytes.items k && bytes_eq nonce.bytes.items n) until (until_in keys k n)
until_set keys new key nonce was untils until there updates rows =
    until_after keys new key.bytes.items nonce.bytes.items untils until (under_after keys new key (Some untils) updates) (λ q.
    rows q ∙ ap (cond (bytes_eq nonce.bytes.items q) until) (sym (until_is keys key was q there)))

pub many_set : (keys new : Keys) (key : Text) (was untils : Untils) (end m : ℕ) → get text_order keys key ≡ Some was
    → new.entries ≡ set_value (is_at (text_order key)) keys.entries untils
    → many_of m untils ≡ many_of m was + (if nat_le m end then 1 else 0)
    → many_in new m ≡ many_in keys m + (if nat_le m end then 1 else 0)
many_set keys new key was untils end m there is more =
    let all = sum_written (many_of m) keys new key was untils is there in
    omega (arith, all, more)

pub many_same : (keys new : Keys) (key : Text) (was untils : Untils) → get text_order keys key ≡ Some was
    → new.entries ≡ set_value (is_at (text_order key)) keys.entries untils
    → untils.entries ≡ was.entries → (m : ℕ) → many_in new m ≡ many_in keys m
many_same keys new key was untils there is same m =
    let all = sum_written (many_of m) keys new key was untils is there in
    let equal : many_of m untils ≡ many_of m was = ap (λ (es : List (Text × ℕ)). sum_by (λ until. if nat_le m until then 1 else 0) (values_of es)) same in
    omega (arith, all, equal)

abbrev one_where : Bool → ℕ
one_where b = if b then 1 else 0

weight : (m : ℕ) (o : Option ℕ) → unwrap_or (option_map (λ until. one_where (nat_le m until)) o) 0 ≡ one_where (is_live_at m o)
weight m None = refl
weight m (Some until) = refl

pub many_taken : (keys new : Keys) (key nonce : Text) (was untils : Untils) → get text_order keys key ≡ Some was
    → new.entries ≡ set_value (is_at (text_order key)) keys.entries untils
    → untils.entries ≡ remove_entry (is_at (text_order nonce)) was.entries
    → (m : ℕ) → many_in new m + (if is_live_at m (until_in keys key.bytes.items nonce.bytes.items) then 1 else 0) ≡ many_in keys m
many_taken keys new key nonce was untils there is removed m =
    let all = sum_written (many_of m) keys new key was untils is there in
    let less = sum_removed (λ until. if nat_le m until then 1 else 0) was untils nonce removed in
    let until : get text_order was nonce ≡ until_in keys key.bytes.items nonce.bytes.items
    = sym (found was nonce) ∙ sym (until_is keys key was nonce.bytes.items there) in
    let one : unwrap_or (option_map (λ until. one_where (nat_le m until)) (get text_order was nonce)) 0
    ≡ one_where (is_live_at m (until_in keys key.bytes.items nonce.bytes.items))
    = weight m (get text_order was nonce) ∙ ap (λ o. one_where (is_live_at m o)) until in
    omega (arith, all, less, one)

-- a key that isn't there comes with one nonce
pub until_first : (keys new : Keys) (key nonce : Text) (empty untils : Untils) (end : ℕ) → under keys key.bytes.items ≡ None → empty.entries ≡ []
    → Updates text_order keys new key (Some untils)
    → ((n : List ℕ) → under untils n ≡ cond (bytes_eq nonce.bytes.items n) (Some end) (under empty n))
    → (k n : List ℕ) → until_in new k n ≡ cond (bytes_eq key.bytes.items k && bytes_eq nonce.bytes.items n) (Some end) (until_in keys k n)
until_first keys new key nonce empty untils end absent none updates rows =
    until_after keys new key.bytes.items nonce.bytes.items untils (Some end) (under_after keys new key (Some untils) updates) (λ q.
    rows q ∙ ap (λ (es : List (Text × ℕ)). cond (bytes_eq nonce.bytes.items q) (Some end) (lookup (λ (v : Text). is_eq (text_cmp q v)) es)) none
    ∙ sym (ap (λ (o : Option Untils). cond (bytes_eq nonce.bytes.items q) (Some end) (option_and_then (λ (u : Untils). under u q) o)) absent))

pub many_first : (keys new : Keys) (key : Text) (empty untils : Untils) (end m : ℕ) → under keys key.bytes.items ≡ None
    → empty.entries ≡ []
    → IsOrdered text_order keys → new.entries ≡ insert_entry text_order keys.entries key untils
    → many_of m untils ≡ many_of m empty + (if nat_le m end then 1 else 0)
    → many_in new m ≡ many_in keys m + (if nat_le m end then 1 else 0)
many_first keys new key empty untils end m absent none ordered is more =
    let all = sum_inserted (many_of m) keys new key untils ordered is absent in
    let nothing : many_of m empty ≡ 0 = ap (λ (es : List (Text × ℕ)). sum_by (λ until. one_where (nat_le m until)) (values_of es)) none in
    omega (arith, all, more, nothing)

-- ---- the order of the keys, and of the nonces of each

-- what is said of the nonces of each key
abbrev All_ordered : List (Text × Untils) → Type 0
All_ordered es = All (λ (untils : Untils). IsOrdered text_order untils) (values_of es)

pub ordered_set : (keys new : Keys) (test : Text → Bool) (untils : Untils) → new.entries ≡ set_value test keys.entries untils
    → IsOrdered text_order new → IsOrdered text_order untils → AreOrdered keys → AreOrdered new
ordered_set keys new test untils is ordered of_key were =
    (ordered, subst All_ordered (sym is) (All-values-set_value test (λ (u : Untils). IsOrdered text_order u) keys.entries untils were.1 of_key))

pub ordered_first : (keys new : Keys) (kept : Text) (untils : Untils) → new.entries ≡ insert_entry text_order keys.entries kept untils
    → IsOrdered text_order new → IsOrdered text_order untils → AreOrdered keys → AreOrdered new
ordered_first keys new kept untils is ordered of_key were =
    (ordered, subst All_ordered (sym is) (All-values-insert_entry text_order kept untils (λ (u : Untils). IsOrdered text_order u) keys.entries were.1 of_key))

pub ordered_same : (keys new : Keys) → new.entries ≡ keys.entries → AreOrdered keys → AreOrdered new
ordered_same keys new is were = subst (λ (es : List (Text × Untils)). IsStrictlySortedBy text_order (keys_of es) × All_ordered es) (sym is) were

-- the nonces of a key that is there
pub ordered_at : (keys : Keys) (key : Text) (untils : Untils) → get text_order keys key ≡ Some untils → AreOrdered keys → IsOrdered text_order untils
ordered_at keys key untils there were =
    subst (λ o. IfSome o (λ (u : Untils). IsOrdered text_order u)) there
    (IfSome-lookup_from_All (λ (u : Untils). IsOrdered text_order u) (is_at (text_order key)) keys.entries were.1)

-- ---- a nonce that goes only where it isn't remembered any more

pub until_over : (over : Bool) (keys new : Keys) (key nonce : Text) (was untils : Untils) → get text_order keys key ≡ Some was
    → Updates text_order keys new key (Some untils)
    → (over ≡ true → Updates text_order was untils nonce None) → (over ≡ false → untils.entries ≡ was.entries)
    → (k n : List ℕ) → until_in new k n ≡ cond (over && (bytes_eq key.bytes.items k && bytes_eq nonce.bytes.items n)) None (until_in keys k n)
until_over true keys new key nonce was untils there updates goes stays =
    until_set keys new key nonce was untils None there updates (under_after was untils nonce None (goes refl))
until_over false keys new key nonce was untils there updates goes stays =
    until_same keys new key was untils (under_after keys new key (Some untils) updates) there (stays refl)

pub many_over : (over : Bool) (keys new : Keys) (key nonce : Text) (was untils : Untils) → get text_order keys key ≡ Some was
    → new.entries ≡ set_value (is_at (text_order key)) keys.entries untils
    → (over ≡ true → untils.entries ≡ remove_entry (is_at (text_order nonce)) was.entries)
    → (over ≡ false → untils.entries ≡ was.entries)
    → (m : ℕ) → many_in new m + (if over && is_live_at m (until_in keys key.bytes.items nonce.bytes.items) then 1 else 0) ≡ many_in keys m
many_over true keys new key nonce was untils there is goes stays m = many_taken keys new key nonce was untils there is (goes refl) m
many_over false keys new key nonce was untils there is goes stays m =
    let same = many_same keys new key was untils there is (stays refl) m in
    omega (arith, same)

pub rows_over : (latest : ℕ) (over : Bool) (keys new : Keys) (key nonce : List ℕ) → over ≡ is_over_at latest (until_in keys key nonce)
    → ((k n : List ℕ) → until_in new k n ≡ cond (over && (bytes_eq key k && bytes_eq nonce n)) None (until_in keys k n))
    → (k n : List ℕ) → until_in new k n
    ≡ cond ((bytes_eq key k && bytes_eq nonce n) && not (is_live_at latest (until_in keys k n))) None (until_in keys k n)
rows_over latest over keys new key nonce was rows k n = rows k n ∙ by (bytes_eq key k) (bytes_eq nonce n) refl refl
  where
    at : (o : Option ℕ) → cond (is_over_at latest o && true) None o ≡ cond (not (is_live_at latest o)) None o
    at None = refl
    at (Some until) = by_live (nat_le latest until)
      where
        by_live : (b : Bool) → cond (not b && true) None (Some until) ≡ cond (not b) None (Some until)
        by_live true = refl
        by_live false = refl

    none : (b : Bool) (o : Option ℕ) → cond (b && false) None o ≡ o
    none true o = refl
    none false o = refl

    by : (x y : Bool) → bytes_eq key k ≡ x → bytes_eq nonce n ≡ y
        → cond (over && (x && y)) None (until_in keys k n) ≡ cond ((x && y) && not (is_live_at latest (until_in keys k n))) None (until_in keys k n)
    by true true k_is n_is =
        ap (λ b. cond (b && true) None (until_in keys k n))
        (was ∙ ap (λ (q : List ℕ). is_over_at latest (until_in keys q nonce)) ((bytes_eq-Decides key k).0 k_is)
        ∙ ap (λ (q : List ℕ). is_over_at latest (until_in keys k q)) ((bytes_eq-Decides nonce n).0 n_is))
        ∙ at (until_in keys k n)
    by true false k_is n_is = none over (until_in keys k n)
    by false y k_is n_is = none over (until_in keys k n)

-- at a moment from which on it isn't remembered, nothing goes of the count
pub counts_over : (latest m many fewer : ℕ) (over : Bool) (o : Option ℕ) → over ≡ is_over_at latest o → latest ≤ m
    → fewer + (if over && is_live_at m o then 1 else 0) ≡ many → fewer ≡ many
counts_over latest m many fewer over None was le sum = let none = dead_none over in omega (arith, sum, none)
  where
    dead_none : (b : Bool) → one_where (b && false) ≡ 0
    dead_none true = refl
    dead_none false = refl
counts_over latest m many fewer false (Some until) was le sum = omega (arith, sum)
counts_over latest m many fewer true (Some until) was le sum =
    let over = leb-false latest until (not_true (nat_le latest until) (sym was)) in
    let dead : one_where (nat_le m until) ≡ 0 = ap one_where (lt-leb m until (omega (arith, over, le))) in
    omega (arith, sum, dead)
  where
    not_true : (b : Bool) → not b ≡ true → b ≡ false
    not_true true is = absurd (true≢false (sym is))
    not_true false is = refl

-- ---- where all are remembered, or none

same_sums : {X : Type 0} (f g : X → ℕ) (xs : List X) → All (λ x. f x ≡ g x) xs → sum_by f xs ≡ sum_by g xs
same_sums f g [] all = refl
same_sums {X} f g (x ∷ xs) all =
    let head = All-head (λ (y : X). f y ≡ g y) x xs all in
    let rest = same_sums f g xs (All-tail (λ (y : X). f y ≡ g y) x xs all) in
    let of_f = sum_by-cons f x xs in
    let of_g = sum_by-cons g x xs in
    omega (arith, head, rest, of_f, of_g)

each_found : {X : Type 0} (P : X → Type 0) (tree : BTreeMap Text X) → IsOrdered text_order tree
    → ((key : Text) (x : X) → get text_order tree key ≡ Some x → P x) → All P (values_of tree.entries)
each_found {X} P tree ordered each =
    All-values_from_lookup (eq_by_cmp_equiv text_total) P tree.entries (IsDistinct-from_sorted text_order (keys_of tree.entries) ordered)
    (λ q. by q (get text_order tree q) refl)
  where
    by : (key : Text) (o : Option X) → get text_order tree key ≡ o → IfSome o P
    by key None is = tt
    by key (Some x) is = each key x is

-- what holds of each moment that a look-up finds holds of all
each_until : (P : ℕ → Type 0) (keys : Keys) → AreOrdered keys → ((key nonce : List ℕ) (until : ℕ) → until_in keys key nonce ≡ Some until → P until)
    → All (λ (untils : Untils). All P (values_of untils.entries)) (values_of keys.entries)
each_until P keys ordered each =
    each_found (λ (untils : Untils). All P (values_of untils.entries)) keys ordered.0 (λ key untils there.
    each_found P untils (ordered_at keys key untils there ordered)
    (λ nonce until is. each key.bytes.items nonce.bytes.items until
    (until_is keys key untils nonce.bytes.items there ∙ found untils nonce ∙ is)))

abbrev counts_as_at_0 : ℕ → ℕ → Type 0
counts_as_at_0 m until = one_where (nat_le 0 until) ≡ one_where (nat_le m until)

abbrev counts_none : ℕ → ℕ → Type 0
counts_none m until = one_where (nat_le m until) ≡ 0

pub all_counted : (keys : Keys) (m : ℕ) → AreOrdered keys → ((k n : List ℕ) → is_some (until_in keys k n) ≡ is_live_at m (until_in keys k n))
    → many_in keys 0 ≡ many_in keys m
all_counted keys m ordered live =
    same_sums (many_of 0) (many_of m) (values_of keys.entries)
    (All-weaker (λ (untils : Untils). All (counts_as_at_0 m) (values_of untils.entries)) (λ untils. many_of 0 untils ≡ many_of m untils)
    (λ untils all. same_sums (λ until. one_where (nat_le 0 until)) (λ until. one_where (nat_le m until)) (values_of untils.entries) all)
    (values_of keys.entries) (each_until (counts_as_at_0 m) keys ordered
    (λ k n until is. ap one_where (le-leb 0 until (omega arith) ∙ sym (ap is_some is) ∙ live k n ∙ ap (is_live_at m) is))))

no_sum : {X : Type 0} (f : X → ℕ) (xs : List X) → All (λ x. f x ≡ 0) xs → sum_by f xs ≡ 0
no_sum f [] all = refl
no_sum {X} f (x ∷ xs) all =
    let head = All-head (λ (y : X). f y ≡ 0) x xs all in
    let rest = no_sum f xs (All-tail (λ (y : X). f y ≡ 0) x xs all) in
    let sum = sum_by-cons f x xs in
    omega (arith, head, rest, sum)

pub none_counted : (keys : Keys) (latest m : ℕ) → AreOrdered keys → latest ≤ m → ((k n : List ℕ) → is_live_at latest (until_in keys k n) ≡ false)
    → many_in keys m ≡ 0
none_counted keys latest m ordered le dead =
    no_sum (many_of m) (values_of keys.entries)
    (All-weaker (λ (untils : Untils). All (counts_none m) (values_of untils.entries)) (λ untils. many_of m untils ≡ 0)
    (λ untils all. no_sum (λ until. one_where (nat_le m until)) (values_of untils.entries) all)
    (values_of keys.entries) (each_until (counts_none m) keys ordered (λ k n until is.
    let over = leb-false latest until (sym (ap (is_live_at latest) is) ∙ dead k n) in
    ap one_where (lt-leb m until (omega (arith, over, le))))))

live_from_0 : (o : Option ℕ) → is_live_at 0 o ≡ is_some o
live_from_0 None = refl
live_from_0 (Some end) = le-leb 0 end (omega arith)

pub counted_more : (keys new : Keys) (count end : ℕ) → count ≡ many_in keys 0
    → ((m : ℕ) → many_in new m ≡ many_in keys m + (if nat_le m end then 1 else 0)) → count + 1 ≡ many_in new 0
counted_more keys new count end was more =
    let now = more 0 in
    let one : one_where (nat_le 0 end) ≡ 1 = ap one_where (le-leb 0 end (omega arith)) in
    omega (arith, was, now, one)

pub counted_less : (keys new : Keys) (key nonce : List ℕ) (count : ℕ) (there b : Bool) → there ≡ is_some (until_in keys key nonce) → there ≡ b
    → count ≡ many_in keys 0
    → ((m : ℕ) → many_in new m + (if is_live_at m (until_in keys key nonce) then 1 else 0) ≡ many_in keys m) → many_in new 0 + one_where b ≡ count
counted_less keys new key nonce count there b is same was less =
    let now = less 0 in
    let one : one_where (is_live_at 0 (until_in keys key nonce)) ≡ one_where b = ap one_where (live_from_0 (until_in keys key nonce) ∙ sym is ∙ same) in
    omega (arith, was, now, one)

pub counted_over : (keys new : Keys) (key nonce : List ℕ) (latest count : ℕ) (over b : Bool) → over ≡ is_over_at latest (until_in keys key nonce) → over ≡ b
    → count ≡ many_in keys 0 → ((m : ℕ) → many_in new m + (if over && is_live_at m (until_in keys key nonce) then 1 else 0) ≡ many_in keys m)
    → many_in new 0 + one_where b ≡ count
counted_over keys new key nonce latest count over b is same was less =
    let now = less 0 in
    let one : one_where (over && is_live_at 0 (until_in keys key nonce)) ≡ one_where b = ap one_where (by (until_in keys key nonce) is ∙ same) in
    omega (arith, was, now, one)
  where
    and_true : (x : Bool) → (x && true) ≡ x
    and_true true = refl
    and_true false = refl

    by : (o : Option ℕ) → over ≡ is_over_at latest o → (over && is_live_at 0 o) ≡ over
    by None none = ap (λ x. x && false) none ∙ sym none
    by (Some until) some = ap (λ x. over && x) (le-leb 0 until (omega arith)) ∙ and_true over
