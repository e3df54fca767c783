-- What is read from the front of bytes, and the bytes after it. Each run of bytes has a reading; where one ends too early, what is left out is read as 0 or as
-- no bytes.
use Rattle.std.specs.Prelude.{ℕ, zero, suc, ◌+◌, Bool, List, [], ◌∷◌, length, take, drop, nat_lt, ◌==◌, not, Option, Some, None, if◌then◌else◌}
use Rattle.gnap_model.specs.Common.{Text}
use Rattle.gnap_model.specs.declared.rights.Right.{Right}
use Rattle.gnap_model.specs.declared.rights.Right.TheVariants.{Reference, Object}
use Rattle.gnap_model.specs.declared.rights.RightObject.{RightObject}
use Rattle.gnap_model.specs.declared.objects.Ask.{Ask}

abbrev pub byte_at : List ℕ → ℕ × List ℕ
byte_at [] = (0, [])
byte_at (byte ∷ rest) = (byte, rest)

-- a length, of which this much was read before. One that passes the end is read as 0, and nothing is left.
unfoldable pub length_from : ℕ → List ℕ → ℕ × List ℕ
length_from before [] = (0, [])
length_from before (byte ∷ rest) =
    if nat_lt (length rest) (before + byte) then (0, []) else (if nat_lt byte 255 then (before + byte, rest) else length_from (before + byte) rest)

abbrev pub length_at : List ℕ → ℕ × List ℕ
length_at bytes = length_from 0 bytes

unfoldable pub text_at : List ℕ → Text × List ℕ
text_at bytes = let n = length_at bytes in (take n.0 n.1, drop n.0 n.1)

-- what is read, put into something
abbrev pub read_as : {X Y : Type 0} → (X → Y) → X × List ℕ → Y × List ℕ
read_as f read = (f read.0, read.1)

unfoldable pub option_at : {X : Type 0} → (List ℕ → X × List ℕ) → List ℕ → Option X × List ℕ
option_at read bytes = let flag = byte_at bytes in if flag.0 == 0 then (None, flag.1) else read_as Some (read flag.1)

-- two, one after the other
abbrev pub two_at : {X Y : Type 0} → (List ℕ → X × List ℕ) → (List ℕ → Y × List ℕ) → List ℕ → (X × Y) × List ℕ
two_at one other bytes = let first = one bytes in let second = other first.1 in ((first.0, second.0), second.1)

-- this many items
unfoldable pub items_at : {X : Type 0} → (List ℕ → X × List ℕ) → ℕ → List ℕ → List X × List ℕ
items_at read zero bytes = ([], bytes)
items_at read (suc n) bytes = let first = read bytes in read_as (λ others. first.0 ∷ others) (items_at read n first.1)

unfoldable pub list_at : {X : Type 0} → (List ℕ → X × List ℕ) → List ℕ → List X × List ℕ
list_at read bytes = let n = length_at bytes in items_at read n.0 n.1

unfoldable pub bool_at : List ℕ → Bool × List ℕ
bool_at bytes = read_as (λ byte. not (byte == 0)) (byte_at bytes)

abbrev pub texts_at : List ℕ → List Text × List ℕ
texts_at = list_at text_at

unfoldable pub object_at : List ℕ → RightObject × List ℕ
object_at bytes =
    let kind = text_at bytes in
    let actions = option_at texts_at kind.1 in
    let locations = option_at texts_at actions.1 in
    let datatypes = option_at texts_at locations.1 in
    let privileges = option_at texts_at datatypes.1 in
    let identifier = option_at text_at privileges.1 in
    let further = text_at identifier.1 in (
      record {
        kind = kind.0;
        actions = actions.0;
        locations = locations.0;
        datatypes = datatypes.0;
        privileges = privileges.0;
        identifier = identifier.0;
        further = further.0;
      },
      further.1,
    )

unfoldable pub right_at : List ℕ → Right × List ℕ
right_at bytes = let flag = byte_at bytes in if flag.0 == 0 then read_as Reference (text_at flag.1) else read_as Object (object_at flag.1)

unfoldable pub ask_at : List ℕ → Ask × List ℕ
ask_at bytes =
    let label = option_at text_at bytes in
    let rights = list_at right_at label.1 in
    let bearer = bool_at rights.1 in
    (record { label = label.0; rights = rights.0; bearer = bearer.0 }, bearer.1)

-- the rights that bytes stand for
unfoldable pub rights_in : List ℕ → List Right
rights_in bytes = (list_at right_at bytes).0

-- the asks that bytes stand for
unfoldable pub asks_in : List ℕ → List Ask
asks_in bytes = (list_at ask_at bytes).0
