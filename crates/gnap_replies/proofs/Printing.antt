-- What is printed piece by piece is the text of the object or the array.
use Rattle.std.proofs.Common.{◌≡◌, ℕ, ◌+◌, ◌<◌, length, get_or, take, drop, map, List, [], ◌∷◌, ◌++◌, Bool, true, false, Option, Some, None, Result, IfOk, Ordering, Less, Equal, Greater, refl, sym, ap, subst, ◌∙◌, add-one, append_assoc, append-nil}
use Rattle.std.specs.Ordering.{nat_cmp, is_lt, match_ordering}
use Rattle.std.specs.List.{list_all, AllByRecursion}
use Rattle.std.proofs.Math.Seq.{take-suc, drop-cons}
use Rattle.std.proofs.lemmas.List.{map-append}
use Rattle.std.specs.Cmp.Lexicographic.{slice_cmp}
use Rattle.std.proofs.lemmas.Bool.{and_parts}
use Rattle.std.proofs.lemmas.Result.{IfOk-weaker}
use Rattle.bytes_and_lists.specs.declared.memory.Mem.{Mem}
use Rattle.json.specs.Token.{Token}
use Rattle.json.specs.Print.{print, print_from, quoted, token_text}
use Rattle.serde_json.specs.Data.{Data, array, Members, no_members, member, put}
use Rattle.serde_json.specs.Written.{comma_if, compact_text, items_text, members_text}
use Rattle.json_objects.specs.Objects.{members_onto, object_of, items}
use Rattle.gnap_replies.specs.Printing.{Printed, then_value, then_begin, then_end, then_name, then_field, then_fields, then_object, then_items}
use Rattle.gnap_replies.specs.Printing.{is_ascending, HasPrinted}
use Rattle.gnap_replies.specs.declared.printer.Printer.{Printer}

-- ---- members in ascending order are put one behind another

-- the name stands before the first member
abbrev IsBefore : List ℕ → Members → Type 0
IsBefore name no_members = Unit {0}
IsBefore name (member k d ms) = is_lt (slice_cmp nat_cmp name k) ≡ true

put_before : (name : List ℕ) (d : Data) (ms : Members) → IsBefore name ms → put name d ms ≡ member name d ms
put_before name d no_members before = refl
put_before name d (member k e ms) before = chosen (slice_cmp nat_cmp name k) before
  where
    chosen : (o : Ordering) → is_lt o ≡ true → match_ordering o (member name d (member k e ms)) (member k d ms) (member k e (put name d ms))
        ≡ member name d (member k e ms)
    chosen Less less = refl
    chosen Equal less = cc
    chosen Greater less = cc

before_fields : (name : List ℕ) (fs : List (List ℕ × Option Data)) → list_all (λ g. is_lt (slice_cmp nat_cmp name g.0)) fs ≡ true → is_ascending fs ≡ true
    → IsBefore name (members_onto no_members fs)
before_fields name [] all ascending = tt
before_fields name ((k, None) ∷ fs) all ascending = before_fields name fs (and_parts _ _ all).1 (and_parts _ _ ascending).1
before_fields name ((k, Some d) ∷ fs) all ascending =
    subst (IsBefore name) (sym (put_before k d _ (before_fields k fs (and_parts _ _ ascending).0 (and_parts _ _ ascending).1))) (and_parts _ _ all).0

behind_field : (s : List ℕ) (later : Bool) (k : List ℕ) (d : Data) (more : List ℕ)
    → (then_field (s, later) k (Some d)).0 ++ more ≡ s ++ (comma_if later ++ (quoted k ++ 58 ∷ (compact_text d ++ more)))
behind_field s later k d more = simp append_assoc

fields_printed : (fs : List (List ℕ × Option Data)) (s : List ℕ) (later : Bool) → is_ascending fs ≡ true
    → then_end (then_fields (s, later) fs) (125 ∷ []) ≡ (s ++ members_text later (members_onto no_members fs), true)
fields_printed [] s later ascending = refl
fields_printed ((k, None) ∷ fs) s later ascending = fields_printed fs s later (and_parts _ _ ascending).1
fields_printed ((k, Some d) ∷ fs) s later ascending =
    let parts = and_parts _ _ ascending in
    fields_printed fs _ true parts.1
    ∙ ap (λ t. (t, true)) (behind_field s later k d (members_text true (members_onto no_members fs)))
    ∙ ap (λ ms. (s ++ members_text later ms, true)) (sym (put_before k d _ (before_fields k fs parts.0 parts.1)))

pub object_printed : (p : Printed) (fs : List (List ℕ × Option Data)) → is_ascending fs ≡ true → then_object p fs ≡ then_value p (compact_text (object_of fs))
object_printed p fs ascending = fields_printed fs _ false ascending ∙ ap (λ t. (t, true)) (simp append_assoc)

-- ---- items

items_printed : (ds : List Data) (s : List ℕ) (later : Bool) → then_end (then_items (s, later) ds) (93 ∷ []) ≡ (s ++ items_text later (items ds), true)
items_printed [] s later = refl
items_printed (d ∷ ds) s later = items_printed ds _ true ∙ ap (λ t. (t, true)) (simp append_assoc)

pub array_printed : (p : Printed) (ds : List Data)
    → then_end (then_items (then_begin p (91 ∷ [])) ds) (93 ∷ []) ≡ then_value p (compact_text (array (items ds)))
array_printed p ds = items_printed ds _ false ∙ ap (λ t. (t, true)) (simp append_assoc)

-- ---- a printer's steps

pub paired : {X : Type 0} (r : Result X Mem) (text : X → List ℕ) (later : Bool) (s : List ℕ) → IfOk r (λ t. text t ≡ s)
    → IfOk r (λ t. ◌≡◌ {A = Printed} (text t, later) (s, later))
paired r text later s = IfOk-weaker r _ _ (λ t e. ap (λ u. (u, later)) e)

pub token_behind : (p : Printed) (token : Token) (made before : List ℕ) (written begun : List Token)
    → made ≡ before ++ print written → before ≡ p.0 ++ comma_if p.1 → written ≡ begun ++ token ∷ [] → begun ≡ []
    → made ≡ p.0 ++ (comma_if p.1 ++ token_text token)
unfolding print_from
token_behind p token made before written begun whole same more none = rw (whole, same, more, none) (simp (append_assoc, append-nil))

one_more_item : (ds : List Data) (d : Data) (p : Printed) → then_items p (ds ++ d ∷ []) ≡ then_value (then_items p ds) (compact_text d)
one_more_item [] d p = refl
one_more_item (e ∷ ds) d p = one_more_item ds d _

-- ---- pieces that are put at once

name_begun : (p : Printed) (name : List ℕ) → then_begin p (123 ∷ (quoted name ++ 58 ∷ [])) ≡ then_name (then_begin p (123 ∷ [])) name
name_begun p name = ap (λ t. (t, false)) (simp append_assoc)

value_named : (p : Printed) (name value : List ℕ) → then_value p (quoted name ++ 58 ∷ value) ≡ then_value (then_name p name) value
value_named p name value = ap (λ t. (t, true)) (simp append_assoc)

name_behind : (p : Printed) (name value next : List ℕ)
    → then_begin p (quoted name ++ 58 ∷ (value ++ 44 ∷ (quoted next ++ 58 ∷ []))) ≡ then_name (then_value (then_name p name) value) next
name_behind p name value next = ap (λ t. (t, false)) (simp append_assoc)

-- a name that was put as a string, and its colon
pub colon_behind : (p : Printed) (name written : List ℕ) → written ≡ name
    → then_begin ((then_value p (quoted (written ++ []))).0, false) (58 ∷ []) ≡ then_name p name
colon_behind p name written is = rw is (ap (λ t. (t, false)) (simp (append_assoc, append-nil)))

-- a bracket that opens an object, and the name of its first member
pub first_name : (r : Printer) (p : Printed) (name : List ℕ) → HasPrinted r (then_begin p (123 ∷ (quoted name ++ 58 ∷ [])))
    → HasPrinted r (then_name (then_begin p (123 ∷ [])) name)
first_name r p name printed = subst (HasPrinted r) (name_begun p name) printed

pub name_and_value : (r : Printer) (p : Printed) (name value : List ℕ) → HasPrinted r (then_value p (quoted name ++ 58 ∷ value))
    → HasPrinted r (then_value (then_name p name) value)
name_and_value r p name value printed = subst (HasPrinted r) (value_named p name value) printed

pub value_and_name : (r : Printer) (p : Printed) (name value next : List ℕ)
    → HasPrinted r (then_begin p (quoted name ++ 58 ∷ (value ++ 44 ∷ (quoted next ++ 58 ∷ []))))
    → HasPrinted r (then_name (then_value (then_name p name) value) next)
value_and_name r p name value next printed = subst (HasPrinted r) (name_behind p name value next) printed

-- ---- what a printer has is the text of the whole

pub has_object : (r : Printer) (p : Printed) (fs : List (List ℕ × Option Data)) → is_ascending fs ≡ true → HasPrinted r (then_object p fs)
    → HasPrinted r (then_value p (compact_text (object_of fs)))
has_object r p fs ascending printed = subst (HasPrinted r) (object_printed p fs ascending) printed

pub has_array : (r : Printer) (p : Printed) (ds : List Data) → HasPrinted r (then_end (then_items (then_begin p (91 ∷ [])) ds) (93 ∷ []))
    → HasPrinted r (then_value p (compact_text (array (items ds))))
has_array r p ds printed = subst (HasPrinted r) (array_printed p ds) printed

module _ {A : Type 0} where
  with_next : (f : A → Data) (xs : List A) (i : ℕ) (x : A) → i < length xs → x ≡ get_or xs i x → map f (take (i + 1) xs) ≡ map f (take i xs) ++ f x ∷ []
  with_next f xs i x below is =
      ap (λ n. map f (take n xs)) (add-one i) ∙ ap (map f) (take-suc xs i x below) ∙ map-append f (take i xs) (get_or xs i x ∷ [])
      ∙ ap (λ y. map f (take i xs) ++ f y ∷ []) (sym is)

  -- one more item of an array
  pub has_next : (r : Printer) (p : Printed) (f : A → Data) (xs : List A) (i : ℕ) (x : A) → i < length xs → x ≡ get_or xs i x
      → HasPrinted r (then_value (then_items p (map f (take i xs))) (compact_text (f x))) → HasPrinted r (then_items p (map f (take (i + 1) xs)))
  has_next r p f xs i x below is printed =
      subst (HasPrinted r) (sym (ap (then_items p) (with_next f xs i x below is) ∙ one_more_item (map f (take i xs)) (f x) p)) printed

  next_first : (xs : List A) (i : ℕ) (x : A) → i < length xs → drop i xs ≡ get_or xs i x ∷ drop (i + 1) xs
  next_first xs i x below = drop-cons xs i x below ∙ ap (λ n. get_or xs i x ∷ drop n xs) (sym (add-one i))

  pub all_behind : (test : A → Bool) (xs : List A) (i : ℕ) (x : A) → i < length xs → list_all test (drop i xs) ≡ true → list_all test (drop (i + 1) xs) ≡ true
  all_behind test xs i x below all = (and_parts _ _ (subst (λ ys. list_all test ys ≡ true) (next_first xs i x below) all)).1

  pub each_behind : (P : A → Type 0) (xs : List A) (i : ℕ) (x : A) → i < length xs → AllByRecursion P (drop i xs) → AllByRecursion P (drop (i + 1) xs)
  each_behind P xs i x below each = (subst (AllByRecursion P) (next_first xs i x below) each).1
