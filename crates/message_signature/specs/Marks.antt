-- The mark of a signature (RFC 9421, section 2.3): the `nonce` and the `created` that it tells of itself.
use Rattle.std.specs.Prelude.{ℕ, nat_lt, nat_le, ◌==◌, Bool, ◌&&◌, ◌||◌, if◌then◌else◌, List, length, Option, Some, None, Result, Ok, Err, ℤ, pos, negsuc, codes}
use Rattle.std.specs.List.{list_all}
use Rattle.bytes_and_lists.specs.declared.message.Message.{Message}
use Rattle.structured_fields.specs.declared.bare.Bare.{Bare}
use Rattle.structured_fields.specs.declared.item.InnerList.{InnerList}
use Rattle.structured_fields.specs.Letters.{is_letter, is_digit}
use Rattle.structured_fields.specs.Named.{value_at}
use Rattle.structured_fields.specs.Reading.{◌>>=◌}
use Rattle.structured_fields.specs.Strings.{string_in}
use Rattle.message_signature.specs.declared.fault.SigFault.{SigFault}
use Rattle.message_signature.specs.declared.marks.SignatureMark.{SignatureMark}
use Rattle.message_signature.specs.Verified.{integer_in, lone_list}

-- ---- what a mark may hold

-- so many bytes has a nonce at most
abbrev pub longest_nonce : ℕ
longest_nonce = 64

-- in seconds since 1970: 300 behind the last second of the year 9999
abbrev pub latest_created : ℕ
latest_created = 253402301099

-- 1 to 64 bytes
abbrev pub has_nonce_length : List ℕ → Bool
has_nonce_length nonce = nat_lt 0 (length nonce) && nat_le (length nonce) longest_nonce

-- ---- the mark of a list

-- a String of that length
abbrev pub nonce_in : Option Bare → Option (List ℕ)
nonce_in param = do
  value ← param
  nonce ← string_in value
  if has_nonce_length nonce then Some nonce else None

-- a moment from 1970 on
abbrev pub moment_in : ℤ → Option ℕ
moment_in (pos moment) = if nat_le moment latest_created then Some moment else None
moment_in (negsuc before) = None

-- an Integer that is such a moment
abbrev pub created_in : Option Bare → Option ℕ
created_in param = do
  value ← param
  moment ← integer_in value
  moment_in moment

-- the mark that these parameters tell
abbrev pub mark_in : InnerList → Option SignatureMark
mark_in list = do
  nonce ← nonce_in (value_at list.params (codes "nonce"))
  created ← created_in (value_at list.params (codes "created"))
  Some (record { nonce = nonce; created = created })

-- ---- the mark of a message

-- the mark of a list that was found, and none where none was
abbrev pub mark_in_found : Result InnerList SigFault → Option SignatureMark
mark_in_found (Ok list) = mark_in list
mark_in_found (Err fault) = None

-- the mark of the list, or why it wasn't found
abbrev pub marked : Result InnerList SigFault → Result (Option SignatureMark) SigFault
marked (Ok list) = Ok (mark_in list)
marked (Err fault) = Err fault

-- The mark of the one inner list of `signature-input` with the tag. None where there isn't exactly one, and where it has no mark.
unfoldable pub mark_of : Message → List ℕ → Option SignatureMark
mark_of m tag = mark_in_found (lone_list m tag)

-- ---- nonces that are written

-- a letter, a digit, `.`, `_` or `-`
abbrev pub is_nonce_byte : ℕ → Bool
is_nonce_byte c = is_letter c || is_digit c || (c == 46) || (c == 95) || (c == 45)

-- 1 to 64 of them
abbrev pub is_nonce : List ℕ → Bool
is_nonce nonce = has_nonce_length nonce && list_all is_nonce_byte nonce
