-- The reply that bytes are (RFC 9112, sections 4 to 6).
use Rattle.std.specs.Prelude.{◌≡◌, ◌<◌, ℕ, ◌==◌, nat_le, Bool, true, false, not, ◌&&◌, ◌||◌, List, [], ◌∷◌, length, map, Result, Ok, Err}
use Rattle.std.specs.List.{list_any}
use Rattle.std.specs.Str.Parse.{digits_value}
use Rattle.httparse.specs.Grammar.{ResponseHead, print_response, ReadsResponse, status_code}
use Rattle.httparse.specs.Spans.{name_and_value}
use Rattle.http1.specs.Fields.{Header}
use Rattle.http_edge.specs.declared.reply_reading.ReplyFault.{ReplyFault}
use Rattle.http_edge.specs.declared.reply_reading.ReplyFault.TheVariants as faults
use Rattle.http_edge.specs.Limits.{head_limit, field_limit}
use Rattle.http_edge.specs.Framing.{is_coded, is_digits, lengths_of}

-- a body of n bytes is what the `Content-Length` fields say: none says nothing, and several are refused
abbrev pub says_length : List (List ℕ) → ℕ → Bool
says_length [] n = true
says_length (v ∷ []) n = is_digits v && digits_value 10 v == n
says_length (v ∷ w ∷ more) n = false

-- no coding is named, and a body of n bytes is what the fields say
abbrev pub frames : List Header → ℕ → Bool
frames headers n = not (list_any is_coded headers) && says_length (lengths_of headers) n

-- The head has so many bytes, these fields and this status, and a body of n bytes is behind it.
abbrev pub fits_parts : ℕ → List Header → ℕ → ℕ → Bool
fits_parts len headers status n =
    nat_le len head_limit && nat_le (length headers) field_limit && frames headers n && (not (status == 204) || n == 0)

-- The head has at most 16,384 bytes and 64 fields, and the bytes behind it are a body that it says.
unfoldable pub fits_body : ResponseHead → List ℕ → Bool
fits_body head body = fits_parts (length (print_response head)) (map name_and_value head.fields) (status_code head) (length body)

-- the bytes are one whole reply of this status and this body
pub record IsHttpReply (bytes : List ℕ) (status : ℕ) (body : List ℕ) : Type 0 where
  pub head : ResponseHead
  pub reads : ReadsResponse bytes head body
  pub fits : fits_body head body ≡ true
  pub status_is : status ≡ status_code head

-- the bytes are no reply
abbrev pub IsNoHttpReply : List ℕ → Type 0
IsNoHttpReply bytes = (status : ℕ) (body : List ℕ) → ¬ (IsHttpReply bytes status body)

-- a reader answers the reply that the bytes are, or that they are none; want of memory may come at any time
abbrev pub GivesReply : List ℕ → Result (ℕ × List ℕ) ReplyFault → Type 0
GivesReply bytes (Ok reply) = IsHttpReply bytes reply.0 reply.1
GivesReply bytes (Err faults.NotAReply) = IsNoHttpReply bytes
GivesReply bytes (Err faults.OutOfMemory) = Unit {0}

-- a head at the front has more than 64 fields
abbrev pub HasNoRoom : List ℕ → Type 0
HasNoRoom bytes = (head : ResponseHead) (rest : List ℕ) → ReadsResponse bytes head rest → field_limit < length head.fields
