-- What each message has that was read from bytes.
use Rattle.std.specs.Prelude.{◌≡◌, ℕ, ◌==◌, Bool, not, ◌&&◌, map, All}
use Rattle.std.specs.Char.{to_ascii_lowercase}
use Rattle.httparse.specs.Grammar.{AllPass}
use Rattle.bytes_and_lists.specs.declared.message.Field.{Field}
use Rattle.bytes_and_lists.specs.declared.message.Message.{Message}

-- neither CR nor LF
abbrev pub is_line_byte : ℕ → Bool
is_line_byte c = not (c == 13) && not (c == 10)

-- the field is of one line, and its name is in lower case
pub record IsFieldLine (field : Field) : Type 0 where
  pub name : AllPass is_line_byte field.name
  pub lower : map to_ascii_lowercase field.name ≡ field.name
  pub value : AllPass is_line_byte field.value

-- no CR and no LF stands in the method, the target and the fields, and the names of the fields are in lower case
pub record HasOneLineParts (m : Message) : Type 0 where
  pub method : AllPass is_line_byte m.method
  pub target : AllPass is_line_byte m.target
  pub fields : All IsFieldLine m.fields
