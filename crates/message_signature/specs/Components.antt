-- The values of a message's components (RFC 9421, section 2).
-- Bytes stand by their numbers: 44 `,`, 32 SP, 47 `/`, 58 `:`, 63 `?`, 64 `@`.
use Rattle.std.specs.Prelude.{ℕ, ◌+◌, ◌==◌, nat_le, Bool, false, not, ◌&&◌, ◌||◌, if◌then◌else◌, List, [], ◌∷◌, ◌++◌, map, filter, take, drop, Option, Some, None, codes}
use Rattle.std.specs.List.{prefix_len, list_any}
use Rattle.std.specs.Str.{bytes_eq}
use Rattle.bytes_and_lists.specs.declared.message.Field.{Field}
use Rattle.bytes_and_lists.specs.declared.message.Message.{Message}
use Rattle.structured_fields.specs.Reading.{trimmed, or_some}
use Rattle.structured_fields.specs.Canonical.{separated_text}
use Rattle.message_signature.specs.declared.components.FieldValue.{FieldValue}
use Rattle.message_signature.specs.declared.components.FieldValue.TheVariants.{Line, Joined}

-- ---- fields (section 2.1)

-- the values of the lines with this name, in order
abbrev pub values_of : List ℕ → List Field → List (List ℕ)
values_of name fields = map (λ f. trimmed f.value) (filter (λ f. bytes_eq f.name name) fields)

-- one `, ` between values
abbrev pub joined : List (List ℕ) → Option (List ℕ)
joined [] = None
joined (value ∷ values) = Some (separated_text (44 ∷ 32 ∷ []) (λ v. v) (value ∷ values))

-- the value of a field: those of its lines, joined. None where no line has the name.
unfoldable pub field_value : List ℕ → List Field → Option (List ℕ)
field_value name fields = joined (values_of name fields)

-- what is joined so far, and one more value behind it
abbrev pub with_next : Option (List ℕ) → List ℕ → List ℕ
with_next None value = value
with_next (Some text) value = text ++ (44 ∷ 32 ∷ value)

-- the bytes of a field's value, as the code holds it
abbrev pub text_of : FieldValue → List ℕ
text_of (Line line) = line.now
text_of (Joined text) = text

-- ---- derived components (section 2.2)

abbrev pub until : ℕ → List ℕ → ℕ
until byte text = prefix_len (λ c. not (c == byte)) text

abbrev pub or_default : List ℕ → List ℕ → List ℕ
or_default default [] = default
or_default default (c ∷ text) = c ∷ text

-- what stands before the first `:` of the base, and behind the `://`
abbrev pub scheme_of : List ℕ → List ℕ
scheme_of base = take (until 58 base) base

abbrev pub authority_of : List ℕ → List ℕ
authority_of base = drop (until 58 base + 3) base

-- what stands before the first `?` of a request target (RFC 9112, section 3.2.1)
abbrev pub target_path : List ℕ → List ℕ
target_path target = take (until 63 target) target

-- what stands before the `?` of the request target, and from the `?` on
abbrev pub path_of : List ℕ → List ℕ
path_of target = or_default (codes "/") (target_path target)

abbrev pub query_of : List ℕ → List ℕ
query_of target = or_default (codes "?") (drop (until 63 target) target)

-- ---- the value of a component

abbrev pub begins_with_at : List ℕ → Bool
begins_with_at [] = false
begins_with_at (c ∷ name) = c == 64

abbrev pub is_upper : ℕ → Bool
is_upper c = nat_le 65 c && nat_le c 90

-- the value of a derived component
abbrev pub derived : Message → List ℕ → List ℕ → Option (List ℕ)
derived m base name =
    if bytes_eq name (codes "@method") then Some m.method
    else if bytes_eq name (codes "@target-uri") then Some (base ++ m.target)
    else if bytes_eq name (codes "@authority") then Some (authority_of base)
    else if bytes_eq name (codes "@scheme") then Some (scheme_of base)
    else if bytes_eq name (codes "@path") then Some (path_of m.target)
    else if bytes_eq name (codes "@query") then Some (query_of m.target)
    else None

-- that of a field, by its name in lower case
abbrev pub other_value : List ℕ → List Field → Option (List ℕ)
other_value name fields = if begins_with_at name || list_any is_upper name then None else field_value name fields

-- The value of a component of a message to the server with this base. None where there is no such component.
unfoldable pub component : Message → List ℕ → List ℕ → Option (List ℕ)
component m base name = or_some (derived m base name) (other_value name m.fields)
