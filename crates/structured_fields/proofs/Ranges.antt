-- Values of texts are in range.
use Rattle.std.proofs.Common.{◌≡◌, ℕ, zero, suc, ◌+◌, ◌-◌, ◌*◌, ◌^◌, ◌≤◌, ◌<◌, Bool, true, false, ◌⊎◌, inl, inr, List, [], ◌∷◌, length, refl, sym, ap, subst, ◌∙◌, arith, ℤ, nat_abs, lit<}
use Rattle.std.proofs.lemmas.Bool.{and_parts}
use Rattle.std.specs.List.{list_all, AllByRecursion}
use Rattle.std.proofs.Math.Nat.{pow-le-pow_right, pow-suc}
use Rattle.std.proofs.lemmas.Bool.Decides.{nat_tests}
use Rattle.structured_fields.specs.declared.bare.Bare.{Bare}
use Rattle.structured_fields.specs.declared.bare.Bare.TheVariants.{Integer, Decimal, Str, Token, Binary, Boolean, Date, Display}
use Rattle.structured_fields.specs.declared.item.Item.{Item}
use Rattle.structured_fields.specs.declared.item.InnerList.{InnerList}
use Rattle.structured_fields.specs.declared.item.Member.{Member}
use Rattle.structured_fields.specs.declared.item.Member.TheVariants.{Item as Single, Inner}
use Rattle.structured_fields.specs.Named.{IsDistinct}
use Rattle.structured_fields.specs.Letters.{is_digit, is_key, number, number_after, signed}
use Rattle.structured_fields.specs.Grammar.{AreDigits, IsInteger, IsDecimal, IsBare, IsValue, ListsParameters, AreParams, IsItem, AreFurther, AreSeparated, IsInner, IsMember, IsGiven, IsBareTrue, IsEntry, IsItemText, IsListText, IsDictionaryText}
use Rattle.structured_fields.specs.Canonical.{IsInRange, AreInRange, IsItemInRange, IsInnerInRange, IsMemberInRange, IsListInRange, IsDictionaryInRange}
use Rattle.structured_fields.proofs.Entries.{distinct_over, all_over}

-- ---- numbers

bound_after : (ds : List ℕ) (i n : ℕ) → list_all is_digit ds ≡ true → n < 10 ^ i → number_after n ds < 10 ^ (i + length ds)
bound_after [] i n all h = let e : i + 0 ≡ i = omega arith in rw e h
bound_after (c ∷ ds) i n all h =
    let b = and_parts (is_digit c) (list_all is_digit ds) all in
    let digit : c - 48 ≤ 9 = let t = b.0 in grind (arith, nat_tests, t) in
    let step : 10 ^ suc i ≡ 10 ^ i * 10 = pow-suc 10 i in
    let more : 10 * n + (c - 48) < 10 ^ suc i = omega arith in
    let e : i + suc (length ds) ≡ suc i + length ds = omega arith in
    rw e (bound_after ds (suc i) (10 * n + (c - 48)) b.1 more)

number_bound : (ds : List ℕ) (k : ℕ) → list_all is_digit ds ≡ true → length ds ≤ k → number ds < 10 ^ k
number_bound ds k all le =
    let first : number ds < 10 ^ (0 + length ds) = bound_after ds 0 0 all (lit< tt) in
    let same : 0 + length ds ≡ length ds = omega arith in
    let low : number ds < 10 ^ length ds = rw same at first in
    let high : 10 ^ length ds ≤ 10 ^ k = pow-le-pow_right (lit< tt) le in
    omega arith

part_bound : (part : List ℕ) → AreDigits 1 3 part → number part * 10 ^ (3 - length part) < 1000
part_bound [] d = let le = d.least_len in absurd (omega arith)
part_bound (a ∷ []) d = let h : number (a ∷ []) < 10 = number_bound (a ∷ []) 1 d.all (omega arith) in omega arith
part_bound (a ∷ b ∷ []) d = let h : number (a ∷ b ∷ []) < 100 = number_bound (a ∷ b ∷ []) 2 d.all (omega arith) in omega arith
part_bound (a ∷ b ∷ c ∷ []) d = let h : number (a ∷ b ∷ c ∷ []) < 1000 = number_bound (a ∷ b ∷ c ∷ []) 3 d.all (omega arith) in omega arith
part_bound (a ∷ b ∷ c ∷ d ∷ more) p = let le = p.most_len in absurd (omega arith)

abs_signed : (negative : Bool) (n : ℕ) → nat_abs (signed negative n) ≡ n
abs_signed false n = refl
abs_signed true zero = refl
abs_signed true (suc n) = refl

integer_range : (text : List ℕ) (n : ℤ) → IsInteger text n → nat_abs n < 10 ^ 15
integer_range text n i =
    let e : nat_abs n ≡ number i.digits = ap nat_abs i.value ∙ abs_signed i.negative (number i.digits) in
    rw e (number_bound i.digits 15 i.fits.all i.fits.most_len)

decimal_range : (text : List ℕ) (n : ℤ) → IsDecimal text n → nat_abs n < 10 ^ 15
decimal_range text n d =
    let m : ℕ = number d.whole * 1000 + number d.part * 10 ^ (3 - length d.part) in
    let e : nat_abs n ≡ m = ap nat_abs d.value ∙ abs_signed d.negative m in
    let whole : number d.whole < 10 ^ 12 = number_bound d.whole 12 d.whole_fits.all d.whole_fits.most_len in
    let part = part_bound d.part d.part_fits in
    rw e (omega arith)

-- ---- bare items and parameters

bare_range : (text : List ℕ) (v : Bare) → IsBare text v → IsInRange v
bare_range text (Integer n) is = integer_range text n is
bare_range text (Decimal n) is = decimal_range text n is
bare_range text (Str s) is = is.all
bare_range text (Token s) is = is.0
bare_range text (Binary b) is = is.bytes
bare_range text (Boolean b) is = tt
bare_range text (Date n) is = integer_range is.seconds n is.integer
bare_range text (Display s) is = is.utf8

value_range : (text : List ℕ) (v : Bare) → IsValue text v → IsInRange v
value_range [] v is = subst IsInRange (sym is) tt
value_range (c ∷ text) v is = bare_range text v is.1

listed_range : (gs : List (List ℕ × Bare)) (text : List ℕ) → ListsParameters text gs → AreInRange gs
listed_range [] text are = tt
listed_range (g ∷ gs) text are = ((are.3.key, value_range are.3.rest g.1 are.3.value), listed_range gs are.1 are.4)

abbrev Keyed : List ℕ × Bare → Type 0
Keyed p = (is_key p.0 ≡ true) × IsInRange p.1

params_range : (text : List ℕ) (ps : List (List ℕ × Bare)) → AreParams text ps → AreInRange ps
params_range text ps are = subst AreInRange (sym are.2) (all_over Keyed [] are.0 tt (listed_range are.0 text are.1))

params_distinct : (text : List ℕ) (ps : List (List ℕ × Bare)) → AreParams text ps → IsDistinct ps
params_distinct text ps are = subst IsDistinct (sym are.2) (distinct_over [] are.0 tt)

item_range : (text : List ℕ) (v : Item) → IsItem text v → IsItemInRange v
item_range text v i = record {
  bare = bare_range i.bare_text v.bare i.bare;
  params = params_range i.params_text v.params i.params;
  distinct = params_distinct
      i.params_text v.params i.params;
}

-- ---- members

module _ {M : Type 0} (IsBetween : List ℕ → Type 0) (Is : List ℕ → M → Type 0) (P : M → Type 0) (each : (text : List ℕ) (m : M) → Is text m → P m) where
  all_further : (ms : List M) (text : List ℕ) → AreFurther IsBetween Is text ms → AllByRecursion P ms
  all_further [] text are = tt
  all_further (m ∷ ms) text are = (each are.1 m are.5, all_further ms are.2 are.6)

  all_separated : (ms : List M) (text : List ℕ) → AreSeparated IsBetween Is text ms → AllByRecursion P ms
  all_separated [] text are = tt
  all_separated (m ∷ ms) text are = (each are.0 m are.3, all_further ms are.1 are.4)

inner_range : (text : List ℕ) (v : InnerList) → IsInner text v → IsInnerInRange v
inner_range text v i = record {
  items = all_separated _ IsItem IsItemInRange item_range v.items i.items_text i.items;
  params = params_range i.params_text v.params i.params;
  distinct = params_distinct i.params_text v.params i.params;
}

member_range : (text : List ℕ) (m : Member) → IsMember text m → IsMemberInRange m
member_range text (Single v) is = item_range text v is
member_range text (Inner v) is = inner_range text v is

entry_value_range : (text : List ℕ) (m : Member) → IsGiven text m ⊎ IsBareTrue text m → IsMemberInRange m
entry_value_range text m (inl g) = member_range g.member_text m g.member
entry_value_range text m (inr g) = subst IsMemberInRange (sym g.value)
    (record { bare = tt; params = params_range text g.params g.is; distinct = params_distinct text g.params g.is })

abbrev Entered : List ℕ × Member → Type 0
Entered e = (is_key e.0 ≡ true) × IsMemberInRange e.1

entry_range : (text : List ℕ) (e : List ℕ × Member) → IsEntry text e → Entered e
entry_range text e i = (i.key, entry_value_range i.rest e.1 i.member)

-- ---- whole texts

pub item_text_range : (text : List ℕ) (v : Item) → IsItemText text v → IsItemInRange v
item_text_range text v i = item_range i.body v i.item

pub list_text_range : (text : List ℕ) (v : List Member) → IsListText text v → IsListInRange v
list_text_range text v i = all_separated _ IsMember IsMemberInRange member_range v i.body i.members

pub dictionary_text_range : (text : List ℕ) (v : List (List ℕ × Member)) → IsDictionaryText text v → IsDictionaryInRange v
dictionary_text_range text v i =
    let gs = i.entries in
    subst IsDictionaryInRange (sym i.value) (record {
      entries = all_over Entered [] gs tt (all_separated _ IsEntry Entered entry_range gs i.is.body i.is.members);
      distinct = distinct_over [] gs tt;
    })
