-- The base of a signature that covers another one (RFC 9421, section 2.5): members of the two fields of signatures are components too (section 2.1.2).
-- Bytes stand by their numbers: 10 LF.
use Rattle.std.specs.Prelude.{ℕ, ◌==◌, Bool, true, false, ◌&&◌, ◌||◌, if◌then◌else◌, List, [], ◌∷◌, ◌++◌, length, Option, Some, None, option_map, codes}
use Rattle.std.specs.List.{list_any}
use Rattle.std.specs.Str.{bytes_eq}
use Rattle.bytes_and_lists.specs.declared.message.Message.{Message}
use Rattle.structured_fields.specs.declared.bare.Bare.{Bare}
use Rattle.structured_fields.specs.declared.item.Item.{Item}
use Rattle.structured_fields.specs.declared.item.InnerList.{InnerList}
use Rattle.structured_fields.specs.declared.item.Member.{Member}
use Rattle.structured_fields.specs.Named.{value_at}
use Rattle.structured_fields.specs.Reading.{◌>>=◌, dictionary_of}
use Rattle.structured_fields.specs.Canonical.{item_text, member_text}
use Rattle.structured_fields.specs.Strings.{is_string, string_in}
use Rattle.message_signature.specs.declared.tags.SignatureFields.{SignatureFields}
use Rattle.message_signature.specs.Components.{field_value, component}
use Rattle.message_signature.specs.Base.{params_line}

-- ---- the members of the two fields

-- the members of a field: none where it isn't there, or is no dictionary
abbrev pub members_of : Message → List ℕ → List (List ℕ × Member)
members_of m name = or_none (field_value name m.fields >>= dictionary_of)
  where
    or_none : Option (List (List ℕ × Member)) → List (List ℕ × Member)
    or_none (Some members) = members
    or_none None = []

-- the two fields of a message's signatures
abbrev pub signature_members : Message → SignatureFields
signature_members m = record { inputs = members_of m (codes "signature-input"); signatures = members_of m (codes "signature") }

-- ---- components

-- the String `key`, where it is the one parameter
abbrev pub key_in : List (List ℕ × Bare) → Option (List ℕ)
key_in params = if length params == 1 then value_at params (codes "key") >>= string_in else None

-- the label of the member that a component with this name and these parameters names: it is one of the two fields, with the one parameter `key`
abbrev pub label_in : List ℕ → List (List ℕ × Bare) → Option (List ℕ)
label_in name params = if bytes_eq name (codes "signature") || bytes_eq name (codes "signature-input") then key_in params else None

-- both name the member under one label, or both name none
abbrev pub is_same_label : Option (List ℕ) → Option (List ℕ) → Bool
is_same_label (Some a) (Some b) = bytes_eq a b
is_same_label None None = true
is_same_label _ _ = false

-- the item is the component with this name, and names the member under this label or none
abbrev pub is_component : List ℕ → Option (List ℕ) → Item → Bool
is_component name label item = is_string name item.bare && is_same_label label (label_in name item.params)

-- the value of a component without parameters is what it is in any signature base
abbrev pub plain_value : Message → List ℕ → List ℕ → List (List ℕ × Bare) → Option (List ℕ)
plain_value m base name [] = component m base name
plain_value m base name (p ∷ params) = None

-- The value of a component: the canonical text of the member that it names, or what it is in any signature base.
abbrev pub value_of : Message → List ℕ → SignatureFields → List ℕ → List (List ℕ × Bare) → Option (List ℕ)
value_of m base fields name params = by (label_in name params)
  where
    by : Option (List ℕ) → Option (List ℕ)
    by (Some label) = option_map member_text (value_at (if bytes_eq name (codes "signature") then fields.signatures else fields.inputs) label)
    by None = plain_value m base name params

-- ---- the base

-- the canonical text of the item, `: `, the value and an LF
abbrev pub line_with : Item → Option (List ℕ) → Option (List ℕ)
line_with item value = option_map (λ v. item_text item ++ (codes ": " ++ (v ++ 10 ∷ []))) value

-- The line of a covered component. None where it is no String, is named again by the ones behind it, or has no value.
abbrev pub rotation_line : Message → List ℕ → SignatureFields → Item → List Item → Option (List ℕ)
rotation_line m base fields item others = do
  name ← string_in item.bare
  if list_any (is_component name (label_in name item.params)) others then None else line_with item (value_of m base fields name item.params)

-- the lines of the covered components
unfoldable pub rotation_lines : Message → List ℕ → SignatureFields → List Item → Option (List ℕ)
rotation_lines m base fields [] = Some []
rotation_lines m base fields (item ∷ items) = do
  line ← rotation_line m base fields item items
  lines ← rotation_lines m base fields items
  Some (line ++ lines)

-- the base where the two fields have these members
unfoldable pub base_with : Message → List ℕ → SignatureFields → InnerList → Option (List ℕ)
base_with m base fields list = do
  lines ← rotation_lines m base fields list.items
  Some (lines ++ params_line list)

-- The base of a signature of a message to the server with this base, under this list of covered components. None where it isn't supported.
abbrev pub rotation_base : Message → List ℕ → InnerList → Option (List ℕ)
rotation_base m base list = base_with m base (signature_members m) list
