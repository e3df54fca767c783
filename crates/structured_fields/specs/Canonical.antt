-- The one canonical text of each value (RFC 9651, section 4.1), and the values that have one.
use Rattle.std.specs.Prelude.{◌≡◌, ℕ, suc, ◌+◌, ◌/◌, ◌%◌, ◌==◌, ◌<◌, true, false, if◌then◌else◌, List, [], ◌∷◌, ◌++◌, ℤ, pos, negsuc, nat_abs, IsUtf8}
use Rattle.std.specs.List.{flat_map, list_all, AllByRecursion}
use Rattle.std.specs.Fmt.{decimal}
use Rattle.base64.specs.GeneralPurpose.{encode_of, IsBytes}
use Rattle.base64.specs.Engines.{standard}
use Rattle.structured_fields.specs.Named.{IsDistinct}
use Rattle.structured_fields.specs.declared.bare.Bare.{Bare}
use Rattle.structured_fields.specs.declared.bare.Bare.TheVariants.{Integer, Decimal, Str, Token, Binary, Boolean, Date, Display}
use Rattle.structured_fields.specs.declared.item.Item.{Item}
use Rattle.structured_fields.specs.declared.item.InnerList.{InnerList}
use Rattle.structured_fields.specs.declared.item.Member.{Member}
use Rattle.structured_fields.specs.declared.item.Member.TheVariants.{Item as Single, Inner}
use Rattle.structured_fields.specs.Letters.{number_limit, is_key, is_token, is_string_byte, is_shown}
use Rattle.structured_fields.specs.Grammar.{in_string, boolean_text, percent}

-- ---- bare items (sections 4.1.4 to 4.1.11)

-- the digits of so many thousandths, below a thousand, without needless zeros at the end
abbrev pub part_text : ℕ → List ℕ
part_text n =
    if n % 100 == 0 then (48 + n / 100) ∷ []
    else if n % 10 == 0 then (48 + n / 100) ∷ (48 + n / 10 % 10) ∷ []
    else (48 + n / 100) ∷ (48 + n / 10 % 10) ∷ (48 + n % 10) ∷ []

abbrev pub integer_text : ℤ → List ℕ
integer_text (pos n) = decimal n
integer_text (negsuc n) = 45 ∷ decimal (suc n)

abbrev pub thousandths_text : ℕ → List ℕ
thousandths_text n = decimal (n / 1000) ++ 46 ∷ part_text (n % 1000)

abbrev pub decimal_text : ℤ → List ℕ
decimal_text (pos n) = thousandths_text n
decimal_text (negsuc n) = 45 ∷ thousandths_text (suc n)

-- a byte that may not stand for itself in a Display String stands as its digits
abbrev pub shown : ℕ → List ℕ
shown b = if is_shown b then b ∷ [] else percent b

abbrev pub bare_text : Bare → List ℕ
bare_text (Integer n) = integer_text n
bare_text (Decimal n) = decimal_text n
bare_text (Str s) = 34 ∷ flat_map in_string s ++ 34 ∷ []
bare_text (Token s) = s
bare_text (Binary b) = 58 ∷ encode_of standard b ++ 58 ∷ []
bare_text (Boolean b) = boolean_text b
bare_text (Date n) = 64 ∷ integer_text n
bare_text (Display s) = 37 ∷ 34 ∷ flat_map shown s ++ 34 ∷ []

-- ---- parameters and items (sections 4.1.1.2 and 4.1.3)

-- true is written by the key alone
abbrev pub value_text : Bare → List ℕ
value_text (Integer n) = 61 ∷ bare_text (Integer n)
value_text (Decimal n) = 61 ∷ bare_text (Decimal n)
value_text (Str s) = 61 ∷ bare_text (Str s)
value_text (Token s) = 61 ∷ bare_text (Token s)
value_text (Binary b) = 61 ∷ bare_text (Binary b)
value_text (Boolean true) = []
value_text (Boolean false) = 61 ∷ bare_text (Boolean false)
value_text (Date n) = 61 ∷ bare_text (Date n)
value_text (Display s) = 61 ∷ bare_text (Display s)

abbrev pub params_text : List (List ℕ × Bare) → List ℕ
params_text [] = []
params_text (p ∷ ps) = (59 ∷ p.0 ++ value_text p.1) ++ params_text ps

abbrev pub item_text : Item → List ℕ
item_text v = bare_text v.bare ++ params_text v.params

-- ---- lists and dictionaries (sections 4.1.1 and 4.1.2)

module _ {M : Type 0} (between : List ℕ) (text : M → List ℕ) where
  -- each behind what stands between
  abbrev pub further_text : List M → List ℕ
  further_text [] = []
  further_text (m ∷ ms) = between ++ (text m ++ further_text ms)

  abbrev pub separated_text : List M → List ℕ
  separated_text [] = []
  separated_text (m ∷ ms) = text m ++ further_text ms

-- one SP between items
abbrev pub inner_text : InnerList → List ℕ
inner_text v = 40 ∷ separated_text (32 ∷ []) item_text v.items ++ 41 ∷ params_text v.params

abbrev pub member_text : Member → List ℕ
member_text (Single i) = item_text i
member_text (Inner l) = inner_text l

-- `, ` between members
abbrev pub list_text : List Member → List ℕ
list_text v = separated_text (44 ∷ 32 ∷ []) member_text v

-- what stands behind the key of an entry: true is written by its parameters alone
abbrev pub single_text : Bare → List (List ℕ × Bare) → List ℕ
single_text v ps = value_text v ++ params_text ps

abbrev pub entry_text : List ℕ × Member → List ℕ
entry_text (name, Single i) = name ++ single_text i.bare i.params
entry_text (name, Inner l) = name ++ 61 ∷ inner_text l

abbrev pub dictionary_text : List (List ℕ × Member) → List ℕ
dictionary_text v = separated_text (44 ∷ 32 ∷ []) entry_text v

-- ---- the ranges

abbrev pub IsInRange : Bare → Type 0
IsInRange (Integer n) = nat_abs n < number_limit
IsInRange (Decimal n) = nat_abs n < number_limit
IsInRange (Str s) = list_all is_string_byte s ≡ true
IsInRange (Token s) = is_token s ≡ true
IsInRange (Binary b) = IsBytes b
IsInRange (Boolean b) = Unit {0}
IsInRange (Date n) = nat_abs n < number_limit
IsInRange (Display s) = IsUtf8 s

-- keys in form, values in range
abbrev pub AreInRange : List (List ℕ × Bare) → Type 0
AreInRange ps = AllByRecursion (λ p. (is_key p.0 ≡ true) × IsInRange p.1) ps

pub record IsItemInRange (v : Item) : Type 0 where
  pub bare : IsInRange v.bare
  pub params : AreInRange v.params
  pub distinct : IsDistinct v.params

pub record IsInnerInRange (v : InnerList) : Type 0 where
  pub items : AllByRecursion IsItemInRange v.items
  pub params : AreInRange v.params
  pub distinct : IsDistinct v.params

abbrev pub IsMemberInRange : Member → Type 0
IsMemberInRange (Single i) = IsItemInRange i
IsMemberInRange (Inner l) = IsInnerInRange l

abbrev pub IsListInRange : List Member → Type 0
IsListInRange v = AllByRecursion IsMemberInRange v

pub record IsDictionaryInRange (v : List (List ℕ × Member)) : Type 0 where
  pub entries : AllByRecursion (λ e. (is_key e.0 ≡ true) × IsMemberInRange e.1) v
  pub distinct : IsDistinct v
