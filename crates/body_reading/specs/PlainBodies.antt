-- Plain JSON: ASCII, no escapes, no blanks but a space behind a comma or a colon, and no values but strings, arrays and objects.
use Rattle.std.specs.Prelude.{◌≡◌, ◌<◌, ◌≤◌, ℕ, List, length, true, false, Some, IsAscii}
use Rattle.json.specs.Token.{Token}
use Rattle.json.specs.Lex.{Place, fresh, after_value, may_begin, begins_colon, lex, between, punctuate}
use Rattle.json.specs.Json as json
use Rattle.serde_json.specs.Data.{Data, Items, Members, no_members}
use Rattle.serde_json.specs.Read.{of_json, of_items, of_members, converted}
use Rattle.serde_json.specs.Written.{has_float, items_have_float, members_have_float}

abbrev pub tokens_from : Place → List ℕ → List Token
tokens_from place text = punctuate place (lex between text)

-- At most a space stands in `old` before `new`.
pub record SpacePassed (old new : List ℕ) : Type 0 where
  pub same : lex between old ≡ lex between new
  pub ascii : IsAscii new → IsAscii old
  pub len : length new ≤ length old

-- Wherever a value may begin, `old` gives d and then what `new` gives, unless a colon makes a name of it.
pub record BeginsWith (depth : ℕ) (d : Data) (old new : List ℕ) : Type 0 where
  pub value : (place : Place) → may_begin place ≡ true → begins_colon (lex between new) ≡ false
      → converted of_json (json.value depth (tokens_from place old)) ≡ Some (d, tokens_from after_value new)
  pub ascii : IsAscii new → IsAscii old
  pub whole : has_float d ≡ false
  pub shorter : length new < length old

-- Behind its bracket, `old` gives the items ds, the closing bracket, and then what `new` gives.
pub record HasItems (depth : ℕ) (ds : Items) (old new : List ℕ) : Type 0 where
  pub value : converted of_items (json.items (json.value depth) (length (tokens_from fresh old)) (tokens_from fresh old))
      ≡ Some (ds, tokens_from after_value new)
  pub ascii : IsAscii new → IsAscii old
  pub whole : items_have_float ds ≡ false
  pub shorter : length new < length old

-- Behind its brace, `old` gives the members ms, the closing brace, and then what `new` gives.
pub record HasMembers (depth : ℕ) (ms : Members) (old new : List ℕ) : Type 0 where
  pub value : converted (λ js. of_members js no_members) (json.members (json.value depth) (length (tokens_from fresh old)) (tokens_from fresh old))
      ≡ Some (ms, tokens_from after_value new)
  pub ascii : IsAscii new → IsAscii old
  pub whole : members_have_float ms ≡ false
  pub shorter : length new < length old
