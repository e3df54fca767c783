-- The canonical text of a value in range is a text of it.
use Rattle.std.proofs.Common.{◌≡◌, ℕ, zero, suc, ◌+◌, ◌-◌, ◌*◌, ◌/◌, ◌%◌, ◌^◌, ◌<◌, ◌==◌, Bool, true, false, cond, List, [], ◌∷◌, ◌++◌, length, take, slice_get, Some, refl, sym, ap, ◌∙◌, arith, append_assoc, rules, ℤ, pos, negsuc, ◌⊎◌, inl, inr}
use Rattle.std.specs.Prelude.{neg_ℤ}
use Rattle.std.specs.List.{list_all, flat_map, AllByRecursion}
use Rattle.std.specs.Fmt.{decimal}
use Rattle.std.proofs.lemmas.Str.Parse.{IsNumeralModel, numerals_by_fold}
use Rattle.std.proofs.lemmas.Fmt.{digits_decimal, digits_value-decimal, length-decimal-le, decimal_nonempty}
use Rattle.std.proofs.lemmas.Bool.Decides.{nat_tests}
use Rattle.std.proofs.lemmas.Bool.{eqb-true}
use Rattle.std.proofs.lemmas.List.{append-nil}
use Rattle.structured_fields.specs.Named.{IsDistinct}
use Rattle.structured_fields.specs.declared.bare.Bare.{Bare}
use Rattle.structured_fields.specs.declared.bare.Bare.TheVariants.{Integer, Decimal, Str, Token, Binary, Boolean, Date, Display}
use Rattle.structured_fields.specs.declared.item.Item.{Item}
use Rattle.structured_fields.specs.declared.item.InnerList.{InnerList}
use Rattle.structured_fields.specs.declared.item.Member.{Member}
use Rattle.structured_fields.specs.declared.item.Member.TheVariants.{Item as Single, Inner}
use Rattle.structured_fields.specs.Letters.{is_digit, is_key, number, number_after, signed, sign}
use Rattle.structured_fields.specs.Grammar.{AreDigits, IsInteger, IsDecimal, IsBare, IsValue, ListsParameters, AreParams, IsItem, SeparatesItems, SeparatesMembers, IsInner, IsMember, IsGiven, IsBareTrue, IsEntry, AreFurther, AreSeparated, MayEnd, AreMembersText, IsItemText, IsListText, IsDictionaryText}
use Rattle.structured_fields.specs.Canonical.{part_text, shown, integer_text, thousandths_text, bare_text, value_text, params_text, item_text, further_text, separated_text, inner_text, member_text, single_text, entry_text, list_text, dictionary_text, IsInRange, AreInRange, IsItemInRange, IsInnerInRange, IsMemberInRange, IsListInRange, IsDictionaryInRange}
use Rattle.structured_fields.proofs.Displays.{shown_are}
use Rattle.structured_fields.proofs.Entries.{stays}

-- ---- one more entry written

pub params_more : (ps : List (List ℕ × Bare)) (i : ℕ) (name : List ℕ) (v : Bare) → slice_get ps i ≡ Some (name, v)
    → params_text (take (i + 1) ps) ≡ params_text (take i ps) ++ (59 ∷ name ++ value_text v)
params_more [] i name v e = absurd cc
params_more (p ∷ ps) zero name v e =
    let same : p ≡ (name, v) = cc in
    ap (λ (q : List ℕ × Bare). (59 ∷ q.0 ++ value_text q.1) ++ []) same ∙ append-nil (59 ∷ name ++ value_text v)
params_more (p ∷ ps) (suc i) name v e =
    let k : suc i + 1 ≡ suc (i + 1) = omega arith in
    rw k (ap (λ (t : List ℕ). (59 ∷ p.0 ++ value_text p.1) ++ t) (params_more ps i name v e)
    ∙ sym (append_assoc (59 ∷ p.0 ++ value_text p.1) (params_text (take i ps)) (59 ∷ name ++ value_text v)))

-- ---- numbers

pub own : IsNumeralModel (λ ds. list_all is_digit ds ≡ true) number
own = numerals_by_fold _ (search rules) number_after (search rules)

number_digits : (most n : ℕ) → 0 < most → n < 10 ^ most → n < 2 ^ 64 → AreDigits 1 most (decimal n)
number_digits most n pos_most h wide = record
    { all = digits_decimal own n wide; least_len = decimal_nonempty n wide; most_len = length-decimal-le most n pos_most h wide }

number_back : (n : ℕ) → n < 2 ^ 64 → number (decimal n) ≡ n
number_back n h = digits_value-decimal own n h

integer_is : (n : ℤ) → IsInRange (Integer n) → IsInteger (integer_text n) n
integer_is (pos n) h = record {
  negative = false;
  digits = decimal n;
  fits = number_digits 15 n (omega arith) h (omega arith);
  is = refl;
  value = ap pos
      (sym (number_back n (omega arith)));
}
integer_is (negsuc n) h = record {
  negative = true;
  digits = decimal (suc n);
  fits = number_digits 15 (suc n) (omega arith) h (omega arith);
  is = refl;
  value = ap (λ (m : ℕ). neg_ℤ (pos m))
      (sym (number_back (suc n) (omega arith)));
}

digit_is : (a : ℕ) → a < 10 → is_digit (48 + a) ≡ true
digit_is a h = grind (arith, nat_tests)

pub record IsPart (m : ℕ) (text : List ℕ) : Type 0 where
  pub fits : AreDigits 1 3 text
  pub value : number text * 10 ^ (3 - length text) ≡ m

part_is : (m : ℕ) → m < 1000 → IsPart m (part_text m)
part_is m h = by (m % 100 == 0) (m % 10 == 0) refl refl
  where
    by : (a b : Bool) → (m % 100 == 0) ≡ a → (m % 10 == 0) ≡ b
        → IsPart m (cond a ((48 + m / 100) ∷ []) (cond b ((48 + m / 100) ∷ (48 + m / 10 % 10) ∷ []) ((48 + m / 100) ∷ (48 + m / 10 % 10) ∷ (48 + m % 10) ∷ [])))
    by true b p q =
        let k : m % 100 ≡ 0 = eqb-true (m % 100) 0 p in
        record { fits = record { all = rw (digit_is (m / 100) (omega arith)) refl; least_len = omega arith; most_len = omega arith }; value = omega arith }
    by false true p q =
        let k : m % 10 ≡ 0 = eqb-true (m % 10) 0 q in
        record {
          fits = record {
            all = rw (digit_is (m / 100) (omega arith), digit_is (m / 10 % 10) (omega arith)) refl;
            least_len = omega arith;
            most_len =
                omega arith;
          };
          value = omega arith;
        }
    by false false p q =
        record {
          fits = record {
            all = rw (digit_is (m / 100) (omega arith), digit_is (m / 10 % 10) (omega arith), digit_is (m % 10) (omega arith)) refl;
            least_len = omega arith;
            most_len = omega arith;
          };
          value = omega arith;
        }

-- a number of thousandths, whichever its sign
thousandths_are : (negative : Bool) (n : ℕ) → n < 10 ^ 15 → IsDecimal (sign negative ++ thousandths_text n) (signed negative n)
thousandths_are negative n h =
    let p = part_is (n % 1000) (omega arith) in
    let whole : number (decimal (n / 1000)) ≡ n / 1000 = number_back (n / 1000) (omega arith) in
    let low : number (part_text (n % 1000)) * 10 ^ (3 - length (part_text (n % 1000))) ≡ n % 1000 = p.value in
    let sum : number (decimal (n / 1000)) * 1000 + number (part_text (n % 1000)) * 10 ^ (3 - length (part_text (n % 1000)))
    ≡ n = rw (whole, low) (omega arith) in
    record {
      negative = negative;
      whole = decimal (n / 1000);
      part = part_text (n % 1000);
      whole_fits = number_digits 12 (n / 1000) (omega arith) (omega arith) (omega arith);
      part_fits = p.fits;
      is = sym (append_assoc (sign negative) (decimal (n / 1000)) (46 ∷ part_text (n % 1000)));
      value = ap (signed negative) (sym sum);
    }

bare_is : (v : Bare) → IsInRange v → IsBare (bare_text v) v
bare_is (Integer n) h = integer_is n h
bare_is (Decimal (pos n)) h = thousandths_are false n h
bare_is (Decimal (negsuc n)) h = thousandths_are true (suc n) h
bare_is (Str s) h = record { all = h; is = refl }
bare_is (Token s) h = (h, refl)
bare_is (Binary b) h = record { bytes = h; padded = true; is = refl }
bare_is (Boolean b) h = refl
bare_is (Date n) h = record { seconds = integer_text n; is = refl; integer = integer_is n h }
bare_is (Display s) h = record { utf8 = h; body = flat_map shown s; shown = shown_are s; is = refl }

value_is : (v : Bare) → IsInRange v → IsValue (value_text v) v
value_is (Integer n) h = (refl, bare_is (Integer n) h)
value_is (Decimal n) h = (refl, bare_is (Decimal n) h)
value_is (Str s) h = (refl, bare_is (Str s) h)
value_is (Token s) h = (refl, bare_is (Token s) h)
value_is (Binary b) h = (refl, bare_is (Binary b) h)
value_is (Boolean true) h = refl
value_is (Boolean false) h = (refl, refl)
value_is (Date n) h = (refl, bare_is (Date n) h)
value_is (Display s) h = (refl, bare_is (Display s) h)

-- ---- parameters

parameters_listed : (ps : List (List ℕ × Bare)) → AreInRange ps → ListsParameters (params_text ps) ps
parameters_listed [] h = refl
parameters_listed (p ∷ ps) h = (
  59 ∷ p.0
      ++ value_text p.1,
  params_text ps,
  refl,
  record { spaces = 0; rest = value_text p.1; key = h.0.0; is = refl; value = value_is p.1 h.0.1 },
  parameters_listed
      ps h.1,
)

params_are : (ps : List (List ℕ × Bare)) → AreInRange ps → IsDistinct ps → AreParams (params_text ps) ps
params_are ps h d = (ps, parameters_listed ps h, sym (stays [] ps d))

item_is : (v : Item) → IsItemInRange v → IsItem (item_text v) v
item_is v h = record {
  bare_text = bare_text v.bare;
  params_text = params_text v.params;
  is = refl;
  bare = bare_is v.bare h.bare;
  params = params_are v.params
      h.params h.distinct;
}

-- ---- members

module _ {M : Type 0} (IsBetween : List ℕ → Type 0) (Is : List ℕ → M → Type 0) (P : M → Type 0) (between : List ℕ) (text : M → List ℕ)
    (between_is : IsBetween between) (each : (m : M) → P m → Is (text m) m) where
  further_are : (ms : List M) → AllByRecursion P ms → AreFurther IsBetween Is (further_text between text ms) ms
  further_are [] h = refl
  further_are (m ∷ ms) h = (between, text m, further_text between text ms, refl, between_is, each m h.0, further_are ms h.1)

  separated_are : (ms : List M) → AllByRecursion P ms → AreSeparated IsBetween Is (separated_text between text ms) ms
  separated_are [] h = refl
  separated_are (m ∷ ms) h = (text m, further_text between text ms, refl, each m h.0, further_are ms h.1)

-- one more member written
pub separated_more : {M : Type 0} (between : List ℕ) (text : M → List ℕ) (ms : List M) (i : ℕ) (m : M) → slice_get ms i ≡ Some m
    → separated_text between text (take (i + 1) ms) ≡ (separated_text between text (take i ms) ++ (cond (i == 0) [] between)) ++ text m
separated_more between text [] i m e = absurd cc
separated_more between text (k ∷ ms) zero m e = let same : k ≡ m = cc in ap (λ (n : _). text n ++ []) same ∙ append-nil (text m)
separated_more {M} between text (k ∷ ms) (suc i) m e =
    let one : suc i + 1 ≡ suc (i + 1) = omega arith in
    let test : (suc i == 0) ≡ false = grind (arith, nat_tests) in
    rw (one, test) (ap (λ (t : List ℕ). text k ++ t) (more ms i e) ∙ sym (append_assoc (text k) (further_text between text (take i ms)) (between ++ text m))
    ∙ sym (append_assoc (text k ++ further_text between text (take i ms)) between (text m)))
  where
    more : (ms : List M) (i : ℕ) → slice_get ms i ≡ Some m
        → further_text between text (take (i + 1) ms) ≡ further_text between text (take i ms) ++ (between ++ text m)
    more [] i e = absurd cc
    more (k ∷ ms) zero e = let same : k ≡ m = cc in ap (λ (n : M). between ++ (text n ++ [])) same ∙ ap (λ (t : List ℕ). between ++ t) (append-nil (text m))
    more (k ∷ ms) (suc i) e =
        let one : suc i + 1 ≡ suc (i + 1) = omega arith in
        rw one (ap (λ (t : List ℕ). between ++ (text k ++ t)) (more ms i e)
        ∙ sym (append_assoc between (text k ++ further_text between text (take i ms)) (between ++ text m)
        ∙ ap (λ (t : List ℕ). between ++ t) (append_assoc (text k) (further_text between text (take i ms)) (between ++ text m))))

pub inner_is : (v : InnerList) → IsInnerInRange v → IsInner (inner_text v) v
inner_is v h = record {
  before = 0;
  after = 0;
  items_text = separated_text (32 ∷ []) item_text v.items;
  params_text = params_text v.params;
  is = refl;
  items = separated_are SeparatesItems IsItem IsItemInRange (32 ∷ []) item_text (0, refl) item_is v.items h.items;
  params = params_are v.params h.params h.distinct;
}

member_is : (m : Member) → IsMemberInRange m → IsMember (member_text m) m
member_is (Single v) h = item_is v h
member_is (Inner v) h = inner_is v h

comma_is : SeparatesMembers (44 ∷ 32 ∷ [])
comma_is = record { before = []; after = 32 ∷ []; is = refl; before_ows = refl; after_ows = refl }

abbrev single : Bare → List (List ℕ × Bare) → Member
single v ps = Single (record { bare = v; params = ps })

given_is : (v : Bare) (ps : List (List ℕ × Bare)) → IsItemInRange (record { bare = v; params = ps }) → value_text v ≡ 61 ∷ bare_text v
    → IsGiven (single_text v ps) (single v ps)
given_is v ps h e = record {
  member_text = bare_text v
      ++ params_text ps;
  is = ap (λ (t : List ℕ). t ++ params_text ps) e;
  member = item_is (record { bare = v; params = ps }) h;
}

single_is : (v : Bare) (ps : List (List ℕ × Bare)) → IsItemInRange (record { bare = v; params = ps })
    → IsGiven (single_text v ps) (single v ps) ⊎ IsBareTrue (single_text v ps) (single v ps)
single_is (Integer n) ps h = inl (given_is (Integer n) ps h refl)
single_is (Decimal n) ps h = inl (given_is (Decimal n) ps h refl)
single_is (Str s) ps h = inl (given_is (Str s) ps h refl)
single_is (Token s) ps h = inl (given_is (Token s) ps h refl)
single_is (Binary b) ps h = inl (given_is (Binary b) ps h refl)
single_is (Boolean true) ps h = inr (record { params = ps; is = params_are ps h.params h.distinct; value = refl })
single_is (Boolean false) ps h = inl (given_is (Boolean false) ps h refl)
single_is (Date n) ps h = inl (given_is (Date n) ps h refl)
single_is (Display s) ps h = inl (given_is (Display s) ps h refl)

entry_is : (e : List ℕ × Member) → (is_key e.0 ≡ true) × IsMemberInRange e.1 → IsEntry (entry_text e) e
entry_is (name, Single v) h = record { rest = single_text v.bare v.params; key = h.0; is = refl; member = single_is v.bare v.params h.1 }
entry_is (name, Inner v) h = record
    { rest = 61 ∷ inner_text v; key = h.0; is = refl; member = inl (record { member_text = inner_text v; is = refl; member = inner_is v h.1 }) }

-- ---- whole texts

pub item_text_is : (v : Item) → IsItemInRange v → IsItemText (item_text v) v
item_text_is v h = record { before = 0; after = 0; body = item_text v; is = sym (append-nil (item_text v)); item = item_is v h }

may_end : {M : Type 0} (ms : List M) → MayEnd ms []
may_end [] = refl
may_end (m ∷ ms) = refl

module _ {M : Type 0} (Is : List ℕ → M → Type 0) (P : M → Type 0) (text : M → List ℕ) (each : (m : M) → P m → Is (text m) m) where
  members_are : (ms : List M) → AllByRecursion P ms → AreMembersText Is (separated_text (44 ∷ 32 ∷ []) text ms) ms
  members_are ms h = record {
    before = 0;
    body = separated_text (44 ∷ 32 ∷ []) text ms;
    after = [];
    is = sym (append-nil (separated_text (44 ∷ 32 ∷ []) text ms));
    members = separated_are SeparatesMembers Is P (44 ∷ 32 ∷ []) text comma_is each ms h;
    end = may_end ms;
  }

pub list_text_is : (v : List Member) → IsListInRange v → IsListText (list_text v) v
list_text_is v h = members_are IsMember IsMemberInRange member_text member_is v h

pub dictionary_text_is : (v : List (List ℕ × Member)) → IsDictionaryInRange v → IsDictionaryText (dictionary_text v) v
dictionary_text_is v h = record {
  entries = v;
  is = members_are IsEntry (λ e. (is_key e.0 ≡ true) × IsMemberInRange e.1) entry_text entry_is v h.entries;
  value = sym
      (stays [] v h.distinct);
}
