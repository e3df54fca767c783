-- Reading from the front of a text: a value and what stands behind it (RFC 9651, section 4.2).
-- Each reading has its laws with the relation of `Grammar`, in `Laws`.
use Rattle.std.specs.Prelude.{◌≡◌, ℕ, zero, suc, ◌+◌, ◌-◌, ◌*◌, ◌^◌, ◌==◌, nat_le, nat_lt, Bool, true, false, not, if◌then◌else◌, ◌&&◌, ◌||◌, List, [], ◌∷◌, ◌++◌, length, take, drop, reverse, Option, Some, None, option_and_then, option_map, Result, Ok, Err}
use Rattle.std.specs.Option.{option_map_or}
use Rattle.std.specs.List.{prefix_len, list_all}
use Rattle.std.specs.Str.{is_utf8}
use Rattle.base64.specs.GeneralPurpose.{decoded_of}
use Rattle.base64.specs.Engines.{standard, standard_no_pad}
use Rattle.structured_fields.specs.Named.{with_value}
use Rattle.structured_fields.specs.declared.bare.Bare.{Bare}
use Rattle.structured_fields.specs.declared.bare.Bare.TheVariants.{Integer, Decimal, Str, Token, Binary, Boolean, Date, Display}
use Rattle.structured_fields.specs.declared.display_reading.Awaits.{Awaits}
use Rattle.structured_fields.specs.declared.display_reading.Awaits.TheVariants.{Character, FirstDigit, SecondDigit}
use Rattle.structured_fields.specs.declared.fault.FieldFault.{FieldFault}
use Rattle.structured_fields.specs.declared.fault.FieldFault.TheVariants.{NotInGrammar, OutOfMemory}
use Rattle.structured_fields.specs.declared.item.Item.{Item}
use Rattle.structured_fields.specs.declared.item.InnerList.{InnerList}
use Rattle.structured_fields.specs.declared.item.Member.{Member}
use Rattle.structured_fields.specs.declared.item.Member.TheVariants.{Item as Single, Inner}
use Rattle.structured_fields.specs.Letters.{integer_digits, whole_digits, fraction_digits, is_space, is_ows, is_digit, is_key_start, is_key_byte, is_token_start, is_token_byte, is_string_byte, is_quoted, is_shown, number, signed}

infixl 10 ◌>>=◌
abbrev pub ◌>>=◌ : {A B : Type 0} → Option A → (A → Option B) → Option B
o >>= f = option_and_then f o

-- What a function returned, seen by view, is what reading gives, unless memory ran out.
abbrev pub Fails : {Y : Type 0} → FieldFault → Option Y → Type 0
Fails NotInGrammar read = read ≡ None
Fails OutOfMemory read = Unit {0}

abbrev pub Gives : {X Y : Type 0} → (X → Y) → Result X FieldFault → Option Y → Type 0
Gives view (Ok x) read = read ≡ Some (view x)
Gives view (Err e) read = Fails e read

abbrev pub begins : ℕ → List ℕ → Bool
begins c [] = false
begins c (b ∷ t) = b == c

-- the bytes at the front that pass the test, and the rest
abbrev pub front : (ℕ → Bool) → List ℕ → List ℕ
front p t = take (prefix_len p t) t

abbrev pub behind : (ℕ → Bool) → List ℕ → List ℕ
behind p t = drop (prefix_len p t) t

-- the value of a field line: without SP and HTAB at both ends
abbrev pub trimmed : List ℕ → List ℕ
trimmed line = reverse (behind is_ows (reverse (behind is_ows line)))

unfoldable pub key_at : List ℕ → Option (List ℕ × List ℕ)
key_at [] = None
key_at (c ∷ t) = if is_key_start c then Some (front is_key_byte (c ∷ t), behind is_key_byte (c ∷ t)) else None

abbrev pub within : ℕ → ℕ → Bool
within n most = nat_lt 0 n && nat_le n most

-- the thousandths of the digits behind the point
abbrev pub thousandths : List ℕ → List ℕ → ℕ
thousandths whole part = number whole * 1000 + number part * 10 ^ (fraction_digits - length part)

unfoldable pub decimal_at : Bool → List ℕ → List ℕ → Option (Bare × List ℕ)
decimal_at negative whole t =
    if within (length whole) whole_digits && within (prefix_len is_digit t) fraction_digits
    then Some (Decimal (signed negative (thousandths whole (front is_digit t))), behind is_digit t)
    else None

unfoldable pub unsigned_at : Bool → List ℕ → Option (Bare × List ℕ)
unsigned_at negative t =
    if begins 46 (behind is_digit t) then decimal_at negative (front is_digit t) (drop 1 (behind is_digit t))
    else if within (prefix_len is_digit t) integer_digits
    then Some (Integer (signed negative (number (front is_digit t))), behind is_digit t)
    else None

unfoldable pub number_at : List ℕ → Option (Bare × List ℕ)
number_at t = if begins 45 t then unsigned_at true (drop 1 t) else unsigned_at false t

-- what stands between the quotes, from inside on
abbrev pub with_byte : ℕ → Option (List ℕ × List ℕ) → Option (List ℕ × List ℕ)
with_byte c read = option_map (λ x. (c ∷ x.0, x.1)) read

unfoldable pub string_rest : Bool → List ℕ → Option (List ℕ × List ℕ)
string_rest escaped [] = None
string_rest true (c ∷ t) = if is_quoted c then with_byte c (string_rest false t) else None
string_rest false (c ∷ t) =
    if c == 34 then Some ([], t)
    else if c == 92 then string_rest true t
    else if is_string_byte c then with_byte c (string_rest false t) else None

abbrev pub is_not_colon : ℕ → Bool
is_not_colon c = not (c == 58)

abbrev pub or_some : {A : Type 0} → Option A → Option A → Option A
or_some (Some x) o = Some x
or_some None o = o

-- what the base64 text holds, padded or not
abbrev pub is_byte : ℕ → Bool
is_byte c = nat_lt c 256

abbrev pub only_bytes : Option (List ℕ) → Option (List ℕ)
only_bytes None = None
only_bytes (Some b) = if list_all is_byte b then Some b else None

unfoldable pub decoded : List ℕ → Option (List ℕ)
decoded s = only_bytes (or_some (decoded_of standard s) (decoded_of standard_no_pad s))

unfoldable pub binary_rest : List ℕ → Option (Bare × List ℕ)
binary_rest t =
    if begins 58 (behind is_not_colon t) then option_map (λ b. (Binary b, drop 1 (behind is_not_colon t))) (decoded (front is_not_colon t))
    else None

unfoldable pub boolean_rest : List ℕ → Option (Bare × List ℕ)
boolean_rest t =
    if begins 48 t then Some (Boolean false, drop 1 t)
    else if begins 49 t then Some (Boolean true, drop 1 t) else None

-- a number that is the seconds of a date
abbrev pub as_date : Bare → Option Bare
as_date (Integer n) = Some (Date n)
as_date (Decimal n) = None
as_date (Str s) = None
as_date (Token s) = None
as_date (Binary b) = None
as_date (Boolean b) = None
as_date (Date n) = None
as_date (Display s) = None

-- behind the `@`
unfoldable pub date_at : List ℕ → Option (Bare × List ℕ)
date_at t = do
  x ← number_at t
  date ← as_date x.0
  Some (date, x.1)

-- the value of a hexadecimal digit, in lower case
abbrev pub hex_value : ℕ → Option ℕ
hex_value c =
    if is_digit c then Some (c - 48)
    else if nat_le 97 c && nat_le c 102 then Some (c - 87)
    else None

abbrev pub byte_of : ℕ → ℕ → Option ℕ
byte_of first second = do
  a ← hex_value first
  b ← hex_value second
  Some (16 * a + b)

-- the bytes that stand between the quotes of a display string, by what is awaited
unfoldable pub display_bytes : Awaits → List ℕ → Option (List ℕ)
display_bytes Character [] = Some []
display_bytes FirstDigit [] = None
display_bytes (SecondDigit first) [] = None
display_bytes Character (c ∷ t) =
    if c == 37 then display_bytes FirstDigit t
    else if is_shown c then option_map (λ s. c ∷ s) (display_bytes Character t) else None
display_bytes FirstDigit (c ∷ t) = display_bytes (SecondDigit c) t
display_bytes (SecondDigit first) (c ∷ t) = byte_of first c >>= λ b. option_map (λ s. b ∷ s) (display_bytes Character t)

abbrev pub only_utf8 : Option (List ℕ) → Option (List ℕ)
only_utf8 None = None
only_utf8 (Some s) = if is_utf8 s then Some s else None

unfoldable pub display_text : List ℕ → Option (List ℕ)
display_text t = only_utf8 (display_bytes Character t)

abbrev pub is_not_quote : ℕ → Bool
is_not_quote c = not (c == 34)

-- behind the first quote
abbrev pub display_rest : List ℕ → Option (Bare × List ℕ)
display_rest t =
    if begins 34 (behind is_not_quote t) then option_map (λ s. (Display s, drop 1 (behind is_not_quote t))) (display_text (front is_not_quote t))
    else None

-- behind the `%`
unfoldable pub display_at : List ℕ → Option (Bare × List ℕ)
display_at t = if begins 34 t then display_rest (drop 1 t) else None

unfoldable pub bare_at : List ℕ → Option (Bare × List ℕ)
bare_at [] = None
bare_at (c ∷ t) =
    if c == 34 then option_map (λ x. (Str x.0, x.1)) (string_rest false t)
    else if c == 58 then binary_rest t
    else if c == 63 then boolean_rest t
    else if c == 64 then date_at t
    else if c == 37 then display_at t
    else if is_token_start c then Some (Token (front is_token_byte (c ∷ t)), behind is_token_byte (c ∷ t))
    else number_at (c ∷ t)

-- what stands behind a key: without `=` the value is true
unfoldable pub value_of : List ℕ → Option (Bare × List ℕ)
value_of t = if begins 61 t then bare_at (drop 1 t) else Some (Boolean true, t)

-- behind the `;`
unfoldable pub parameter_at : List ℕ → Option ((List ℕ × Bare) × List ℕ)
parameter_at t = do
  k ← key_at (behind is_space t)
  v ← value_of k.1
  Some ((k.0, v.0), v.1)

-- at most so many parameters, over those that were read before
unfoldable pub params_from : ℕ → List (List ℕ × Bare) → List ℕ → Option (List (List ℕ × Bare) × List ℕ)
params_from zero ps t = Some (ps, t)
params_from (suc n) ps t =
    if begins 59 t then (parameter_at (drop 1 t) >>= λ g. params_from n (with_value ps g.0.0 g.0.1) g.1)
    else Some (ps, t)

-- as many as there are bytes are never too few
unfoldable pub params_at : List ℕ → Option (List (List ℕ × Bare) × List ℕ)
params_at t = params_from (length t) [] t

unfoldable pub item_at : List ℕ → Option (Item × List ℕ)
item_at t = do
  b ← bare_at t
  p ← params_at b.1
  Some (record { bare = b.0; params = p.0 }, p.1)

-- ---- inner lists

-- a space or the end of the inner list: what an item in it stands before
abbrev pub is_item_end : List ℕ → Bool
is_item_end t = begins 32 t || begins 41 t

-- at most so many items, over those that were read before, and behind the `)`
unfoldable pub items_from : ℕ → List Item → List ℕ → Option (List Item × List ℕ)
items_from zero held t = None
items_from (suc n) held t =
    if begins 41 (behind is_space t) then Some (held, drop 1 (behind is_space t))
    else (item_at (behind is_space t) >>= λ x. if is_item_end x.1 then items_from n (held ++ x.0 ∷ []) x.1 else None)

unfoldable pub items_at : List ℕ → Option (List Item × List ℕ)
items_at t = items_from (length t) [] t

-- behind the `(`
unfoldable pub inner_at : List ℕ → Option (InnerList × List ℕ)
inner_at t = do
  l ← items_at t
  p ← params_at l.1
  Some (record { items = l.0; params = p.0 }, p.1)

-- ---- members and entries

unfoldable pub member_at : List ℕ → Option (Member × List ℕ)
member_at t =
    if begins 40 t then option_map (λ x. (Inner x.0, x.1)) (inner_at (drop 1 t))
    else option_map (λ x. (Single x.0, x.1)) (item_at t)

-- behind a key
unfoldable pub entry_value_at : List ℕ → Option (Member × List ℕ)
entry_value_at t =
    if begins 61 t then member_at (drop 1 t)
    else option_map (λ p. (Single (record { bare = Boolean true; params = p.0 }), p.1)) (params_at t)

unfoldable pub entry_at : List ℕ → Option ((List ℕ × Member) × List ℕ)
entry_at t = do
  k ← key_at t
  m ← entry_value_at k.1
  Some ((k.0, m.0), m.1)

-- ---- members with commas between them

-- behind a member: where nothing but OWS is left, that there is no other one; behind a comma, where the next one stands
unfoldable pub next_at : List ℕ → Option (Option (List ℕ))
next_at t =
    if length (behind is_ows t) == 0 then Some None
    else if begins 44 (behind is_ows t) then Some (Some (behind is_ows (drop 1 (behind is_ows t))))
    else None

module _ {H M : Type 0} (read : List ℕ → Option (M × List ℕ)) (add : H → M → H) where
  -- at most so many members, added to those that were read before
  unfoldable pub members_from : ℕ → H → List ℕ → Option H
  members_from zero held t = None
  members_from (suc n) held t =
      read t >>= λ x. next_at x.1 >>= λ next. option_map_or (λ u. members_from n (add held x.0) u) next (Some (add held x.0))

  -- none, or as many as there are
  unfoldable pub members_of : H → List ℕ → Option H
  members_of none t = if length t == 0 then Some none else members_from (length t) none t

abbrev pub with_last : {M : Type 0} → List M → M → List M
with_last ms m = ms ++ m ∷ []

abbrev pub with_entry : {V : Type 0} → List (List ℕ × V) → List ℕ × V → List (List ℕ × V)
with_entry es e = with_value es e.0 e.1

-- ---- whole texts

unfoldable pub item_of : List ℕ → Option Item
item_of t = do
  x ← item_at (behind is_space t)
  if length (behind is_space x.1) == 0 then Some x.0 else None

unfoldable pub list_of : List ℕ → Option (List Member)
list_of t = members_of member_at with_last [] (behind is_space t)

unfoldable pub dictionary_of : List ℕ → Option (List (List ℕ × Member))
dictionary_of t = members_of entry_at with_entry [] (behind is_space t)
