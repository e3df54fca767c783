-- The signature base as far as the covered components tell it, with places for the values of a message's components (RFC 9421, section 2.5).
-- Bytes stand by their numbers: 10 LF.
use Rattle.std.specs.Prelude.{ℕ, ◌||◌, if◌then◌else◌, List, [], ◌∷◌, ◌++◌, Option, Some, None, codes}
use Rattle.std.specs.List.{list_any}
use Rattle.std.specs.Str.{bytes_eq}
use Rattle.bytes_and_lists.specs.declared.message.Message.{Message}
use Rattle.structured_fields.specs.declared.item.Item.{Item}
use Rattle.structured_fields.specs.Reading.{◌>>=◌}
use Rattle.message_signature.specs.declared.components.DerivedComponent.{DerivedComponent}
use Rattle.message_signature.specs.declared.components.DerivedComponent.TheVariants.{Method, TargetUri, Authority, Scheme, Path, Query}
use Rattle.message_signature.specs.declared.components.CoveredComponent.{CoveredComponent}
use Rattle.message_signature.specs.declared.components.CoveredComponent.TheVariants.{Derived, Field}
use Rattle.message_signature.specs.declared.base_template.LineTemplate.{LineTemplate}
use Rattle.message_signature.specs.declared.base_template.BaseTemplate.{BaseTemplate}
use Rattle.message_signature.specs.Base.{is_named, name_of, base_line}
use Rattle.message_signature.specs.Components.{field_value, scheme_of, authority_of, path_of, query_of, begins_with_at, is_upper}

-- ---- components

-- the derived component with a name
abbrev pub derived_named : List ℕ → Option DerivedComponent
derived_named name =
    if bytes_eq name (codes "@method") then Some Method
    else if bytes_eq name (codes "@target-uri") then Some TargetUri
    else if bytes_eq name (codes "@authority") then Some Authority
    else if bytes_eq name (codes "@scheme") then Some Scheme
    else if bytes_eq name (codes "@path") then Some Path
    else if bytes_eq name (codes "@query") then Some Query
    else None

abbrev pub derived_value : Message → List ℕ → DerivedComponent → List ℕ
derived_value m base Method = m.method
derived_value m base TargetUri = base ++ m.target
derived_value m base Authority = authority_of base
derived_value m base Scheme = scheme_of base
derived_value m base Path = path_of m.target
derived_value m base Query = query_of m.target

-- that, or the field with the name, where that is one of a field
abbrev pub derived_or_field : Option DerivedComponent → List ℕ → Option CoveredComponent
derived_or_field (Some component) name = Some (Derived component)
derived_or_field None name = if begins_with_at name || list_any is_upper name then None else Some (Field name)

-- The component with a name. None where no message has one.
abbrev pub component_named : List ℕ → Option CoveredComponent
component_named name = derived_or_field (derived_named name) name

-- its value; None where the field isn't there
abbrev pub covered_value : Message → List ℕ → CoveredComponent → Option (List ℕ)
covered_value m base (Derived component) = Some (derived_value m base component)
covered_value m base (Field name) = field_value name m.fields

-- ---- what the covered components tell

-- The line of a covered component up to its value, behind the end of the line before. None where it has parameters, is named again by the ones behind it, or
-- no message has it.
abbrev pub line_template : List ℕ → Item → List Item → Option LineTemplate
line_template before item others = do
  name ← name_of item
  component ← if is_named name others then None else component_named name
  Some (record { front = before ++ base_line name []; component = component })

-- those of the covered components: each ends the line before it
unfoldable pub line_templates : List ℕ → List Item → Option (List LineTemplate)
line_templates before [] = Some []
line_templates before (item ∷ items) = do
  line ← line_template before item items
  lines ← line_templates (10 ∷ []) items
  Some (line ∷ lines)

-- the end of the last line, where there is one
abbrev pub line_end : List Item → List ℕ
line_end [] = []
line_end (item ∷ items) = 10 ∷ []

-- The template of these covered components. The line of the parameters is up to their text.
unfoldable pub template_of : List Item → Option BaseTemplate
template_of items = do
  lines ← line_templates [] items
  Some (record { lines = lines; last = line_end items ++ base_line (codes "@signature-params") [] })

-- ---- what the message and the parameters add

-- the line with its value; None where the message has none
abbrev pub filled_line : Message → List ℕ → LineTemplate → Option (List ℕ)
filled_line m base line = do
  value ← covered_value m base line.component
  Some (line.front ++ value)

unfoldable pub filled_lines : Message → List ℕ → List LineTemplate → Option (List ℕ)
filled_lines m base [] = Some []
filled_lines m base (line ∷ lines) = do
  text ← filled_line m base line
  texts ← filled_lines m base lines
  Some (text ++ texts)

-- the base, where this is the canonical text of the list
unfoldable pub filled : Message → List ℕ → BaseTemplate → List ℕ → Option (List ℕ)
filled m base template shown = do
  lines ← filled_lines m base template.lines
  Some (lines ++ (template.last ++ shown))
