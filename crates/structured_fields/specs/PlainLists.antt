-- Dictionaries of one inner list of Strings without parameters, in canonical text.
use Rattle.std.specs.Prelude.{◌≡◌, ℕ, true, List, [], ◌∷◌, ◌++◌}
use Rattle.std.specs.List.{list_all}
use Rattle.structured_fields.specs.declared.bare.Bare.{Bare}
use Rattle.structured_fields.specs.declared.bare.Bare.TheVariants.{Integer, Decimal, Str, Token, Binary, Boolean, Date, Display}
use Rattle.structured_fields.specs.declared.item.Item.{Item}
use Rattle.structured_fields.specs.declared.item.Member.{Member}
use Rattle.structured_fields.specs.declared.item.Member.TheVariants.{Inner}
use Rattle.structured_fields.specs.Letters.{is_string_byte}
use Rattle.structured_fields.specs.Canonical.{item_text, separated_text}

-- `key=("a" "b")`
abbrev pub front_text : List ℕ → List Item → List ℕ
front_text key items = key ++ 61 ∷ 40 ∷ separated_text (32 ∷ []) item_text items ++ 41 ∷ []

-- a String of what a String may hold
abbrev pub IsPlainString : Bare → Type 0
IsPlainString (Integer n) = ⊥
IsPlainString (Decimal n) = ⊥
IsPlainString (Str s) = list_all is_string_byte s ≡ true
IsPlainString (Token s) = ⊥
IsPlainString (Binary b) = ⊥
IsPlainString (Boolean b) = ⊥
IsPlainString (Date n) = ⊥
IsPlainString (Display s) = ⊥

-- such a String without parameters
abbrev pub IsPlainItem : Item → Type 0
IsPlainItem i = IsPlainString i.bare × (i.params ≡ [])

-- the inner list under this key alone
abbrev pub one_list : List ℕ → List Item → List (List ℕ × Bare) → List (List ℕ × Member)
one_list key items params = (key, Inner (record { items = items; params = params })) ∷ []
