-- The signature base (RFC 9421, section 2.5).
-- Bytes stand by their numbers: 10 LF.
use Rattle.std.specs.Prelude.{ℕ, ◌+◌, nat_lt, Bool, if◌then◌else◌, List, [], ◌∷◌, ◌++◌, length, Option, Some, None, codes}
use Rattle.std.specs.List.{list_any}
use Rattle.bytes_and_lists.specs.declared.message.Message.{Message}
use Rattle.structured_fields.specs.declared.bare.Bare.{Bare}
use Rattle.structured_fields.specs.declared.bare.Bare.TheVariants.{Str}
use Rattle.structured_fields.specs.declared.item.Item.{Item}
use Rattle.structured_fields.specs.declared.item.InnerList.{InnerList}
use Rattle.structured_fields.specs.Reading.{◌>>=◌}
use Rattle.structured_fields.specs.Strings.{is_string}
use Rattle.structured_fields.specs.Canonical.{bare_text, inner_text}
use Rattle.message_signature.specs.Components.{component}

-- an item names the component
abbrev pub is_named : List ℕ → List Item → Bool
is_named name items = list_any (λ i. is_string name i.bare) items

-- the name of a component that has no parameters
abbrev pub name_of : Item → Option (List ℕ)
name_of item = plain item.bare item.params
  where
    plain : Bare → List (List ℕ × Bare) → Option (List ℕ)
    plain (Str name) [] = Some name
    plain _ _ = None

-- the name as a String, `: `, and the value
abbrev pub base_line : List ℕ → List ℕ → List ℕ
base_line name value = bare_text (Str name) ++ (codes ": " ++ value)

-- The line of a covered component, with an LF. None where it has parameters, is named again by the ones behind it, or isn't there.
abbrev pub line_of : Message → List ℕ → Item → List Item → Option (List ℕ)
line_of m base item others = do
  name ← name_of item
  value ← if is_named name others then None else component m base name
  Some (base_line name value ++ 10 ∷ [])

-- the lines of the covered components
unfoldable pub base_lines : Message → List ℕ → List Item → Option (List ℕ)
base_lines m base [] = Some []
base_lines m base (item ∷ items) = do
  line ← line_of m base item items
  lines ← base_lines m base items
  Some (line ++ lines)

-- More are covered than a message has components: six derived ones, and one for each field line. Such a list has no base: one is named again or isn't there.
abbrev pub covers_too_many : Message → List Item → Bool
covers_too_many m items = nat_lt (length m.fields + 6) (length items)

-- the line of the signature's parameters: the canonical text of the whole inner list
abbrev pub params_line : InnerList → List ℕ
params_line list = base_line (codes "@signature-params") (inner_text list)

-- The signature base of a message to the server with this base, under this list of covered components. None where it isn't supported.
unfoldable pub signature_base : Message → List ℕ → InnerList → Option (List ℕ)
signature_base m base list = do
  lines ← base_lines m base list.items
  Some (lines ++ params_line list)
