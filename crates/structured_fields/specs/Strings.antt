-- Bare items that are Strings.
use Rattle.std.specs.Prelude.{ℕ, Bool, false, List, Option, Some, None, is_some}
use Rattle.std.specs.List.{list_all}
use Rattle.std.specs.Str.{bytes_eq}
use Rattle.structured_fields.specs.declared.bare.Bare.{Bare}
use Rattle.structured_fields.specs.declared.bare.Bare.TheVariants.{Integer, Decimal, Str, Token, Binary, Boolean, Date, Display}
use Rattle.structured_fields.specs.declared.item.Item.{Item}

-- the text of a String
abbrev pub string_in : Bare → Option (List ℕ)
string_in (Integer n) = None
string_in (Decimal n) = None
string_in (Str s) = Some s
string_in (Token s) = None
string_in (Binary b) = None
string_in (Boolean b) = None
string_in (Date n) = None
string_in (Display s) = None

abbrev pub is_any_string : Bare → Bool
is_any_string v = is_some (string_in v)

-- all items are Strings, whatever their parameters are
abbrev pub are_strings : List Item → Bool
are_strings items = list_all (λ i. is_any_string i.bare) items

-- the bare item is this String
abbrev pub is_string : List ℕ → Bare → Bool
is_string s (Str t) = bytes_eq t s
is_string s (Integer n) = false
is_string s (Decimal n) = false
is_string s (Token t) = false
is_string s (Binary b) = false
is_string s (Boolean b) = false
is_string s (Date n) = false
is_string s (Display t) = false

-- a bare item is there, and is this String
abbrev pub holds_string : List ℕ → Option Bare → Bool
holds_string s (Some v) = is_string s v
holds_string s None = false
