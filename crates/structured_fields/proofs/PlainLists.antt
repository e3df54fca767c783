-- A dictionary of one inner list of Strings, in canonical text.
use Rattle.std.proofs.Common.{◌≡◌, ℕ, suc, ◌≤◌, ◌<◌, ◌^◌, ◌+◌, ◌-◌, Bool, true, false, cond, List, [], ◌∷◌, ◌++◌, length, take, drop, get_or, Some, refl, sym, ap, subst, ◌∙◌, arith, append_assoc}
use Rattle.std.specs.List.{AllByRecursion, flat_map, list_all, prefix_len}
use Rattle.std.specs.Str.{bytes_eq}
use Rattle.std.specs.Fmt.{decimal}
use Rattle.std.proofs.lemmas.Fmt.{decimal-digits_value}
use Rattle.std.proofs.lemmas.List.{append-nil, take_rest}
use Rattle.std.proofs.lemmas.List.Concat.{flat_map-cons}
use Rattle.std.proofs.lemmas.Bool.{and_parts}
use Rattle.std.proofs.lemmas.Bool.Decides.{nat_tests}
use Rattle.structured_fields.specs.Named.{with_value, IsDistinct}
use Rattle.structured_fields.specs.declared.bare.Bare.{Bare}
use Rattle.structured_fields.specs.declared.bare.Bare.TheVariants.{Integer, Decimal, Str, Token, Binary, Boolean, Date, Display}
use Rattle.structured_fields.specs.declared.item.Item.{Item}
use Rattle.structured_fields.specs.Letters.{is_key_start, is_key_byte, is_key, is_plain, is_quoted, is_string_byte, is_digit, number, number_limit}
use Rattle.structured_fields.specs.Grammar.{in_string}
use Rattle.structured_fields.specs.Canonical.{bare_text, value_text, params_text, item_text, further_text, separated_text, inner_text, dictionary_text, IsInRange, AreInRange, IsItemInRange, IsInnerInRange}
use Rattle.structured_fields.specs.Reading.{front, behind, dictionary_of}
use Rattle.structured_fields.specs.PlainLists.{front_text, IsPlainString, IsPlainItem, one_list}
use Rattle.structured_fields.proofs.Fronts.{parts}
use Rattle.structured_fields.proofs.Runs.{front_all}
use Rattle.structured_fields.proofs.Written.{own, dictionary_text_is}
use Rattle.structured_fields.proofs.Whole.{dictionary_of_again}

bare_fits : (v : Bare) → IsPlainString v → IsInRange v
bare_fits (Integer n) h = absurd h
bare_fits (Decimal n) h = absurd h
bare_fits (Str s) h = h
bare_fits (Token s) h = absurd h
bare_fits (Binary b) h = absurd h
bare_fits (Boolean b) h = absurd h
bare_fits (Date n) h = absurd h
bare_fits (Display s) h = absurd h

item_fits : (i : Item) → IsPlainItem i → IsItemInRange i
item_fits i h = record { bare = bare_fits i.bare h.0; params = rw h.1 tt; distinct = rw h.1 tt }

items_fit : (items : List Item) → AllByRecursion IsPlainItem items → AllByRecursion IsItemInRange items
items_fit [] h = tt
items_fit (i ∷ items) h = (item_fits i h.0, items_fit items h.1)

module _ (key : List ℕ) (items : List Item) (ps : List (List ℕ × Bare)) where
  pub shown_behind : front_text key items ++ params_text ps ≡ key ++ 61 ∷ inner_text (record { items = items; params = ps })
  shown_behind = simp append_assoc

  -- the text of such a dictionary is read as the one list
  pub plain_list_is_read : is_key key ≡ true → AllByRecursion IsPlainItem items → AreInRange ps → IsDistinct ps
      → dictionary_of (front_text key items ++ params_text ps) ≡ Some (one_list key items ps)
  plain_list_is_read is plain fits distinct =
      let list : IsInnerInRange (record { items = items; params = ps }) = record { items = items_fit items plain; params = fits; distinct = distinct } in
      let whole : dictionary_text (one_list key items ps) ≡ front_text key items ++ params_text ps =
      append-nil (key ++ 61 ∷ inner_text (record { items = items; params = ps })) ∙ sym shown_behind in
      sym (ap dictionary_of whole)
      ∙ dictionary_of_again (dictionary_text (one_list key items ps)) (one_list key items ps)
      (dictionary_text_is (one_list key items ps) (record { entries = ((is, list), tt); distinct = (refl, tt) }))

-- ---- what stands at the front

-- a text by its first byte
pub opened : (c : ℕ) (t : List ℕ) → 1 ≤ length t → get_or t 0 0 ≡ c → t ≡ c ∷ take (length t - 1) (drop 1 t)
opened c [] long is = absurd (omega arith)
opened c (x ∷ r) long is = λ i. is i ∷ sym (take_rest (x ∷ r) 1) i

key_at_front : (text : List ℕ) → is_key_start (get_or text 0 0) ≡ true → is_key (front is_key_byte text) ≡ true
key_at_front [] start = absurd cc
key_at_front (c ∷ t) start =
    let one : 1 + prefix_len is_key_byte t ≡ suc (prefix_len is_key_byte t) = omega arith in
    let byte : is_key_byte c ≡ true = rw start refl in
    rw (byte, one, start) (front_all is_key_byte t)

pub key_parted : (text key rest : List ℕ) → is_key_start (get_or text 0 0) ≡ true → key ≡ front is_key_byte text → rest ≡ behind is_key_byte text
    → 1 ≤ length rest → get_or rest 0 0 ≡ 61 → (text ≡ key ++ 61 ∷ take (length rest - 1) (drop 1 rest)) × (is_key key ≡ true)
key_parted text key rest start front_is behind_is long equals = (
  parts is_key_byte text ∙ (λ i. sym front_is i ++ sym behind_is i) ∙ ap (λ (t : List ℕ). key ++ t) (opened 61 rest long equals),
  ap is_key front_is ∙ key_at_front text start,
)

-- what needs no backslash stands for itself
stands_so : (s : List ℕ) → list_all is_plain s ≡ true → (flat_map in_string s ≡ s) × (list_all is_string_byte s ≡ true)
stands_so [] all = (refl, refl)
stands_so (c ∷ s) all =
    let a = and_parts (is_plain c) (list_all is_plain s) all in
    let bare : is_quoted c ≡ false = let plain = a.0 in grind (arith, plain, nat_tests) in
    let byte : is_string_byte c ≡ true = let plain = a.0 in grind (arith, plain, nat_tests) in
    let rest = stands_so s a.1 in
    (flat_map-cons in_string c s ∙ rw bare (ap (λ (t : List ℕ). c ∷ t) rest.0), rw (byte, rest.1) refl)

pub string_parted : (text inside held rest : List ℕ) → 1 ≤ length text → get_or text 0 0 ≡ 34 → inside ≡ take (length text - 1) (drop 1 text)
    → held ≡ front is_plain inside → rest ≡ behind is_plain inside → 1 ≤ length rest → get_or rest 0 0 ≡ 34
    → (text ≡ bare_text (Str held) ++ take (length rest - 1) (drop 1 rest)) × (list_all is_string_byte held ≡ true)
string_parted text inside held rest long quote inside_is held_is rest_is more close =
    let so = stands_so held (ap (list_all is_plain) held_is ∙ front_all is_plain inside) in
    let after : List ℕ = take (length rest - 1) (drop 1 rest) in
    let apart : inside ≡ held ++ 34 ∷ after = parts is_plain inside ∙ (λ i. sym held_is i ++ sym rest_is i)
    ∙ ap (λ (t : List ℕ). held ++ t) (opened 34 rest more close) in
    let shown : held ++ 34 ∷ after ≡ (flat_map in_string held ++ 34 ∷ []) ++ after = ap (λ (t : List ℕ). t ++ 34 ∷ after) (sym so.0)
    ∙ sym (append_assoc (flat_map in_string held) (34 ∷ []) after) in
    (opened 34 text long quote ∙ ap (λ (t : List ℕ). 34 ∷ t) (sym inside_is ∙ apart ∙ shown), so.1)

-- ---- one more

all_last : {X : Type 0} (P : X → Type 0) (xs : List X) (x : X) → AllByRecursion P xs → P x → AllByRecursion P (xs ++ x ∷ [])
all_last P [] x all one = (one, tt)
all_last P (y ∷ xs) x all one = (all.0, all_last P xs x all.1 one)

params_last : (ps : List (List ℕ × Bare)) (p : List ℕ × Bare) → params_text (ps ++ p ∷ []) ≡ params_text ps ++ (59 ∷ p.0 ++ value_text p.1)
params_last [] p = append-nil (59 ∷ p.0 ++ value_text p.1)
params_last (q ∷ ps) p = ap (λ (t : List ℕ). (59 ∷ q.0 ++ value_text q.1) ++ t) (params_last ps p)
    ∙ sym (append_assoc (59 ∷ q.0 ++ value_text q.1) (params_text ps) (59 ∷ p.0 ++ value_text p.1))

-- a name is new where there are more entries with it
new_last : {V : Type 0} (es : List (List ℕ × V)) (n : List ℕ) (v : V) → (length (with_value es n v) ≡ length es → ⊥) → with_value es n v ≡ es ++ (n, v) ∷ []
new_last [] n v more = refl
new_last {V} (e ∷ es) n v more = by (bytes_eq n e.0) more (new_last es n v)
  where
    by : (b : Bool) → (length (cond b ((e.0, v) ∷ es) (e ∷ with_value es n v)) ≡ suc (length es) → ⊥)
        → ((length (with_value es n v) ≡ length es → ⊥) → with_value es n v ≡ es ++ (n, v) ∷ [])
        → cond b ((e.0, v) ∷ es) (e ∷ with_value es n v) ≡ e ∷ es ++ (n, v) ∷ []
    by true more again = absurd (more refl)
    by false more again = ap (λ (r : List (List ℕ × V)). e ∷ r) (again (λ same. more (ap suc same)))

module _ (ps new : List (List ℕ × Bare)) (name : List ℕ) (v : Bare) (set : new ≡ with_value ps name v) (more : length new ≡ length ps → ⊥) where
  last : new ≡ ps ++ (name, v) ∷ []
  last = set ∙ new_last ps name v (subst (λ (r : List (List ℕ × Bare)). length r ≡ length ps → ⊥) set more)

  pub param_put : (text after behind_key rest : List ℕ) → text ≡ 59 ∷ after → after ≡ name ++ 61 ∷ behind_key → 61 ∷ behind_key ≡ value_text v ++ rest
      → params_text ps ++ text ≡ params_text new ++ rest
  param_put text after behind_key rest text_is after_is value_is =
      let shown : text ≡ (59 ∷ name ++ value_text v) ++ rest = text_is
      ∙ ap (λ (t : List ℕ). 59 ∷ t) (after_is ∙ ap (λ (t : List ℕ). name ++ t) value_is ∙ sym (append_assoc name (value_text v) rest)) in
      ap (λ (t : List ℕ). params_text ps ++ t) shown ∙ sym (append_assoc (params_text ps) (59 ∷ name ++ value_text v) rest)
      ∙ ap (λ (t : List ℕ). t ++ rest) (sym (params_last ps (name, v)) ∙ ap params_text (sym last))

  pub params_fit : is_key name ≡ true → IsInRange v → AreInRange ps → AreInRange new
  params_fit is fits all = subst AreInRange (sym last) (all_last (λ p. (is_key p.0 ≡ true) × IsInRange p.1) ps (name, v) all (is, fits))

-- ---- items with another one behind them

-- each item and the space behind it
abbrev pub spaced_text : List Item → List ℕ
spaced_text [] = []
spaced_text (i ∷ items) = item_text i ++ 32 ∷ spaced_text items

module _ (i : Item) where
  further_last : (items : List Item) → further_text (32 ∷ []) item_text (items ++ i ∷ []) ≡ 32 ∷ (spaced_text items ++ item_text i)
  further_last [] = ap (λ (t : List ℕ). 32 ∷ t) (append-nil (item_text i))
  further_last (k ∷ items) = ap (λ (t : List ℕ). 32 ∷ (item_text k ++ t)) (further_last items)
      ∙ ap (λ (t : List ℕ). 32 ∷ t) (sym (append_assoc (item_text k) (32 ∷ spaced_text items) (item_text i)))

  separated_last : (items : List Item) → separated_text (32 ∷ []) item_text (items ++ i ∷ []) ≡ spaced_text items ++ item_text i
  separated_last [] = append-nil (item_text i)
  separated_last (k ∷ items) = ap (λ (t : List ℕ). item_text k ++ t) (further_last items)
      ∙ sym (append_assoc (item_text k) (32 ∷ spaced_text items) (item_text i))

  spaced_last : (items : List Item) → spaced_text (items ++ i ∷ []) ≡ spaced_text items ++ (item_text i ++ 32 ∷ [])
  spaced_last [] = refl
  spaced_last (k ∷ items) = ap (λ (t : List ℕ). item_text k ++ 32 ∷ t) (spaced_last items)
      ∙ sym (append_assoc (item_text k) (32 ∷ spaced_text items) (item_text i ++ 32 ∷ []))

abbrev pub plain_item : List ℕ → Item
plain_item s = record { bare = Str s; params = [] }

module _ (text left s rest : List ℕ) (items new : List Item) (so_far : text ≡ spaced_text items ++ left) (left_is : left ≡ bare_text (Str s) ++ rest)
    (pushed : new ≡ items ++ plain_item s ∷ []) (long : 1 ≤ length rest) where
  shown : (c : ℕ) → get_or rest 0 0 ≡ c → text ≡ spaced_text items ++ (item_text (plain_item s) ++ c ∷ take (length rest - 1) (drop 1 rest))
  shown c is = so_far
      ∙ ap (λ (t : List ℕ). spaced_text items ++ t)
      (left_is ∙ (λ i. sym (append-nil (bare_text (Str s))) i ++ opened c rest long is i))

  pub items_closed : get_or rest 0 0 ≡ 41 → text ≡ separated_text (32 ∷ []) item_text new ++ 41 ∷ take (length rest - 1) (drop 1 rest)
  items_closed is = let after : List ℕ = take (length rest - 1) (drop 1 rest) in
      shown 41 is ∙ sym (append_assoc (spaced_text items) (item_text (plain_item s)) (41 ∷ after))
      ∙ ap (λ (t : List ℕ). t ++ 41 ∷ after) (sym (separated_last (plain_item s) items) ∙ ap (separated_text (32 ∷ []) item_text) (sym pushed))

  pub items_more : get_or rest 0 0 ≡ 32 → text ≡ spaced_text new ++ take (length rest - 1) (drop 1 rest)
  items_more is = let after : List ℕ = take (length rest - 1) (drop 1 rest) in
      shown 32 is
      ∙ ap (λ (t : List ℕ). spaced_text items ++ t) (sym (append_assoc (item_text (plain_item s)) (32 ∷ []) after))
      ∙ sym (append_assoc (spaced_text items) (item_text (plain_item s) ++ 32 ∷ []) after)
      ∙ ap (λ (t : List ℕ). t ++ after) (sym (spaced_last (plain_item s) items) ∙ ap spaced_text (sym pushed))

pub items_plain : (items new : List Item) (s : List ℕ) → new ≡ items ++ plain_item s ∷ [] → AllByRecursion IsPlainItem items → list_all is_string_byte s ≡ true
    → AllByRecursion IsPlainItem new
items_plain items new s pushed all byte = subst (AllByRecursion IsPlainItem) (sym pushed) (all_last IsPlainItem items (plain_item s) all (byte, refl))

-- digits are the canonical text of their number, where no zero leads others
pub integer_parted : (text digits rest : List ℕ) (n : ℕ) → digits ≡ front is_digit text → rest ≡ behind is_digit text → list_all is_digit digits ≡ true
    → 1 ≤ length digits → (get_or digits 0 0 ≡ 48 → length digits ≡ 1) → n ≡ number digits → n < 10 ^ 15
    → (text ≡ decimal n ++ rest) × (n < number_limit)
integer_parted text digits rest n front_is behind_is all least lead value small =
    let written : decimal n ≡ digits = ap decimal value ∙ decimal-digits_value own digits all least lead (subst (λ (m : ℕ). m < 2 ^ 64) value (omega arith)) in
    (parts is_digit text ∙ (λ i. sym front_is i ++ sym behind_is i) ∙ ap (λ (t : List ℕ). t ++ rest) (sym written), small)
