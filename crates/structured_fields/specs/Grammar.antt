-- The grammar of structured fields (RFC 9651), one definition for each production, as relations between whole texts and values.
-- Bytes stand by their numbers: 9 HTAB, 32 SP, 34 `"`, 37 `%`, 40 `(`, 41 `)`, 44 `,`, 45 `-`, 46 `.`, 48 `0`, 49 `1`, 58 `:`, 59 `;`, 61 `=`, 63 `?`, 64 `@`,
-- 92 `\`.
use Rattle.std.specs.Prelude.{◌≡◌, ℕ, suc, ◌+◌, ◌-◌, ◌*◌, ◌/◌, ◌%◌, ◌^◌, ◌≤◌, ◌⊎◌, Bool, true, if◌then◌else◌, List, [], ◌∷◌, ◌++◌, length, replicate, fold, ℤ, IsUtf8}
use Rattle.std.specs.List.{flat_map, list_all}
use Rattle.std.specs.Char.{digit_char}
use Rattle.base64.specs.GeneralPurpose.{encode_of, IsBytes}
use Rattle.base64.specs.Engines.{standard, standard_no_pad}
use Rattle.structured_fields.specs.Named.{with_value}
use Rattle.structured_fields.specs.declared.bare.Bare.{Bare}
use Rattle.structured_fields.specs.declared.bare.Bare.TheVariants.{Integer, Decimal, Str, Token, Binary, Boolean, Date, Display}
use Rattle.structured_fields.specs.declared.item.Item.{Item}
use Rattle.structured_fields.specs.declared.item.InnerList.{InnerList}
use Rattle.structured_fields.specs.declared.item.Member.{Member}
use Rattle.structured_fields.specs.declared.item.Member.TheVariants.{Item as Single, Inner}
use Rattle.structured_fields.specs.Letters.{integer_digits, whole_digits, fraction_digits, is_ows, is_digit, is_key, is_token, is_string_byte, is_quoted, is_shown, number, signed, sign}

-- ---- bare items (section 3.3)

-- from `least` to `most` digits
pub record AreDigits (least most : ℕ) (digits : List ℕ) : Type 0 where
  pub all : list_all is_digit digits ≡ true
  pub least_len : least ≤ length digits
  pub most_len : length digits ≤ most

-- an Integer (section 3.3.1): an optional `-`, and 1 to 15 digits
pub record IsInteger (text : List ℕ) (n : ℤ) : Type 0 where
  pub negative : Bool
  pub digits : List ℕ
  pub fits : AreDigits 1 integer_digits digits
  pub is : text ≡ sign negative ++ digits
  pub value : n ≡ signed negative (number digits)

-- a Decimal (section 3.3.2): an optional `-`, 1 to 12 digits, `.`, and 1 to 3 digits. Its value is in thousandths.
pub record IsDecimal (text : List ℕ) (n : ℤ) : Type 0 where
  pub negative : Bool
  pub whole : List ℕ
  pub part : List ℕ
  pub whole_fits : AreDigits 1 whole_digits whole
  pub part_fits : AreDigits 1 fraction_digits part
  pub is : text ≡ sign negative ++ whole ++ 46 ∷ part
  pub value : n ≡ signed negative (number whole * 1000 + number part * 10 ^ (fraction_digits - length part))

-- a quote and a backslash stand behind a backslash
abbrev pub in_string : ℕ → List ℕ
in_string c = if is_quoted c then 92 ∷ c ∷ [] else c ∷ []

-- a String (section 3.3.3): characters from SP to `~` between quotes
pub record IsString (text s : List ℕ) : Type 0 where
  pub all : list_all is_string_byte s ≡ true
  pub is : text ≡ 34 ∷ flat_map in_string s ++ 34 ∷ []

-- a Byte Sequence (section 3.3.5): base64 between colons. Its padding stands in full or not at all, and its unused bits are zero.
pub record IsBinary (text b : List ℕ) : Type 0 where
  pub bytes : IsBytes b
  pub padded : Bool
  pub is : text ≡ 58 ∷ encode_of (if padded then standard else standard_no_pad) b ++ 58 ∷ []

-- a Boolean (section 3.3.6): `?1` or `?0`
abbrev pub boolean_text : Bool → List ℕ
boolean_text b = 63 ∷ (if b then 49 else 48) ∷ []

-- a Date (section 3.3.7): `@` and an Integer
pub record IsDate (text : List ℕ) (n : ℤ) : Type 0 where
  pub seconds : List ℕ
  pub is : text ≡ 64 ∷ seconds
  pub integer : IsInteger seconds n

-- `%` and a byte's two hexadecimal digits, in lower case
abbrev pub percent : ℕ → List ℕ
percent b = 37 ∷ digit_char (b / 16) ∷ digit_char (b % 16) ∷ []

-- each byte stands for itself, where it may, or as `%` and its digits
abbrev pub AreShown : List ℕ → List ℕ → Type 0
AreShown text [] = text ≡ []
AreShown text (b ∷ bytes) = (rest : List ℕ) × (((is_shown b ≡ true) × (text ≡ b ∷ rest)) ⊎ (text ≡ percent b ++ rest)) × AreShown rest bytes

-- a Display String (section 3.3.8): bytes that are UTF-8 together, so shown between `%"` and `"`
pub record IsDisplay (text s : List ℕ) : Type 0 where
  pub utf8 : IsUtf8 s
  pub body : List ℕ
  pub shown : AreShown body s
  pub is : text ≡ 37 ∷ 34 ∷ body ++ 34 ∷ []

-- a bare item. A Token (section 3.3.4) is its own text.
abbrev pub IsBare : List ℕ → Bare → Type 0
IsBare text (Integer n) = IsInteger text n
IsBare text (Decimal n) = IsDecimal text n
IsBare text (Str s) = IsString text s
IsBare text (Token s) = (is_token s ≡ true) × (text ≡ s)
IsBare text (Binary b) = IsBinary text b
IsBare text (Boolean b) = text ≡ boolean_text b
IsBare text (Date n) = IsDate text n
IsBare text (Display s) = IsDisplay text s

-- ---- parameters (section 3.1.2)

-- what stands behind the key of a parameter: nothing, which is true, or `=` and a bare item
abbrev pub IsValue : List ℕ → Bare → Type 0
IsValue [] v = v ≡ Boolean true
IsValue (c ∷ text) v = (c ≡ 61) × IsBare text v

-- a parameter: `;`, any number of SP, a key, and its value
pub record IsParameter (text name : List ℕ) (v : Bare) : Type 0 where
  pub spaces : ℕ
  pub rest : List ℕ
  pub key : is_key name ≡ true
  pub is : text ≡ 59 ∷ replicate spaces 32 ++ name ++ rest
  pub value : IsValue rest v

-- parameters one after the other
abbrev pub ListsParameters : List ℕ → List (List ℕ × Bare) → Type 0
ListsParameters text [] = text ≡ []
ListsParameters text (g ∷ gs) = (front : List ℕ) × (back : List ℕ) × (text ≡ front ++ back) × IsParameter front g.0 g.1 × ListsParameters back gs

-- a key that comes again overwrites the value, and keeps its first place
abbrev pub in_order : {V : Type 0} → List (List ℕ × V) → List (List ℕ × V)
in_order gs = fold (λ ps g. with_value ps g.0 g.1) [] gs

-- the parameters of an item or an inner list
abbrev pub AreParams : List ℕ → List (List ℕ × Bare) → Type 0
AreParams text ps = (gs : List (List ℕ × Bare)) × ListsParameters text gs × (ps ≡ in_order gs)

-- an item (section 3.3): a bare item and its parameters
pub record IsItem (text : List ℕ) (v : Item) : Type 0 where
  pub bare_text : List ℕ
  pub params_text : List ℕ
  pub is : text ≡ bare_text ++ params_text
  pub bare : IsBare bare_text v.bare
  pub params : AreParams params_text v.params

-- ---- members with something between them

module _ {M : Type 0} (IsBetween : List ℕ → Type 0) (Is : List ℕ → M → Type 0) where
  -- further members, each behind what stands between
  abbrev pub AreFurther : List ℕ → List M → Type 0
  AreFurther text [] = text ≡ []
  AreFurther text (m ∷ ms) = (between : List ℕ) × (first : List ℕ) × (others : List ℕ)
      × (text ≡ between ++ (first ++ others)) × IsBetween between × Is first m × AreFurther others ms

  -- any number of members
  abbrev pub AreSeparated : List ℕ → List M → Type 0
  AreSeparated text [] = text ≡ []
  AreSeparated text (m ∷ ms) = (first : List ℕ) × (others : List ℕ) × (text ≡ first ++ others) × Is first m × AreFurther others ms

-- at least one SP
abbrev pub SeparatesItems : List ℕ → Type 0
SeparatesItems text = (more : ℕ) × (text ≡ replicate (suc more) 32)

-- OWS, a comma, OWS
pub record SeparatesMembers (text : List ℕ) : Type 0 where
  pub before : List ℕ
  pub after : List ℕ
  pub is : text ≡ before ++ 44 ∷ after
  pub before_ows : list_all is_ows before ≡ true
  pub after_ows : list_all is_ows after ≡ true

-- an inner list (section 3.1.1): items between parentheses with SP between them, and its parameters
pub record IsInner (text : List ℕ) (v : InnerList) : Type 0 where
  pub before : ℕ
  pub after : ℕ
  pub items_text : List ℕ
  pub params_text : List ℕ
  pub is : text ≡ 40 ∷ replicate before 32 ++ (items_text ++ (replicate after 32 ++ 41 ∷ params_text))
  pub items : AreSeparated SeparatesItems IsItem items_text v.items
  pub params : AreParams params_text v.params

-- a member of a list (section 3.1): an item or an inner list
abbrev pub IsMember : List ℕ → Member → Type 0
IsMember text (Single i) = IsItem text i
IsMember text (Inner l) = IsInner text l

-- ---- dictionaries (section 3.2)

-- `=` and a member
pub record IsGiven (text : List ℕ) (m : Member) : Type 0 where
  pub member_text : List ℕ
  pub is : text ≡ 61 ∷ member_text
  pub member : IsMember member_text m

-- no `=`: true, with parameters
pub record IsBareTrue (text : List ℕ) (m : Member) : Type 0 where
  pub params : List (List ℕ × Bare)
  pub is : AreParams text params
  pub value : m ≡ Single (record { bare = Boolean true; params = params })

-- an entry of a dictionary: a key, and its member
pub record IsEntry (text : List ℕ) (e : List ℕ × Member) : Type 0 where
  pub rest : List ℕ
  pub key : is_key e.0 ≡ true
  pub is : text ≡ e.0 ++ rest
  pub member : IsGiven rest e.1 ⊎ IsBareTrue rest e.1

-- ---- whole texts (section 4.2): SP may stand before and after

pub record IsItemText (text : List ℕ) (v : Item) : Type 0 where
  pub before : ℕ
  pub after : ℕ
  pub body : List ℕ
  pub is : text ≡ replicate before 32 ++ (body ++ replicate after 32)
  pub item : IsItem body v

-- OWS may stand behind the last member, and nothing where there is none (SP may stand before)
abbrev pub MayEnd : {M : Type 0} → List M → List ℕ → Type 0
MayEnd [] text = text ≡ []
MayEnd (m ∷ ms) text = list_all is_ows text ≡ true

-- members with commas between them, for a list and a dictionary
pub record AreMembersText {M : Type 0} (Is : List ℕ → M → Type 0) (text : List ℕ) (ms : List M) : Type 0 where
  pub before : ℕ
  pub body : List ℕ
  pub after : List ℕ
  pub is : text ≡ replicate before 32 ++ (body ++ after)
  pub members : AreSeparated SeparatesMembers Is body ms
  pub end : MayEnd ms after

-- a list: its members
abbrev pub IsListText : List ℕ → List Member → Type 0
IsListText text v = AreMembersText IsMember text v

-- a dictionary: its entries, of which a later one overwrites one of the same key in its place
pub record IsDictionaryText (text : List ℕ) (v : List (List ℕ × Member)) : Type 0 where
  pub entries : List (List ℕ × Member)
  pub is : AreMembersText IsEntry text entries
  pub value : v ≡ in_order entries
