-- The requests that a stream of bytes begins with (RFC 9112).
use Rattle.std.specs.Prelude.{◌≡◌, ℕ, ◌<◌, ◌≤◌, ◌⊎◌, Bool, not, ◌&&◌, ◌||◌, List, [], ◌∷◌, ◌++◌, length, take, map, ◌==◌}
use Rattle.std.specs.Char.{to_ascii_lowercase}
use Rattle.httparse.specs.Grammar.{LineEnd, print_blank, print_request, IsToken, AllPass, RequestHead, ReadsRequest, HasNoRequest, NeverHasRequest}
use Rattle.httparse.specs.Spans.{name_and_value}
use Rattle.http1.specs.Fields.{Header}
use Rattle.bytes_and_lists.specs.declared.message.Field.{Field}
use Rattle.bytes_and_lists.specs.declared.message.Message.{Message}
use Rattle.http_edge.specs.declared.fault.EdgeFault.{EdgeFault}
use Rattle.http_edge.specs.declared.fault.EdgeFault.TheVariants.{BadHead, TooLarge}
use Rattle.http_edge.specs.declared.framing.Framing.TheVariants.{Refused, Body}
use Rattle.http_edge.specs.Limits.{head_limit}
use Rattle.http_edge.specs.Framing.{framing_of, asks_to_close}

-- the bytes in which a head has to end
unfoldable pub window : List ℕ → List ℕ
window b = take head_limit b

-- ---- whether a head stands at the front

-- a byte other than SP, CR and LF
abbrev pub is_inner : ℕ → Bool
is_inner c = not (c == 32) && (not (c == 13) && not (c == 10))

-- the bytes end inside a request target: behind empty lines, a method and one SP
pub record InTarget (w : List ℕ) : Type 0 where
  pub blank : List LineEnd
  pub method : List ℕ
  pub target : List ℕ
  pub token : IsToken method
  pub inner : AllPass is_inner target
  pub whole : w ≡ print_blank blank ++ method ++ 32 ∷ target

-- bytes can follow that make w a head
pub record Completes (w : List ℕ) : Type 0 where
  pub more : List ℕ
  pub head : RequestHead
  pub reads : ReadsRequest (w ++ more) head []

-- It isn't decided yet whether w begins with a head. Inside a target it never is, whatever its bytes are.
pub record IsUndecided (w : List ℕ) : Type 0 where
  pub none : HasNoRequest w
  pub may : Completes w ⊎ InTarget w

-- no bytes can follow that make a front of w a head, and w has left the target
pub record IsNoHead (w : List ℕ) : Type 0 where
  pub never : NeverHasRequest w
  pub outside : ¬ (InTarget w)

-- b begins with the head h, and rest follows it
pub record BeginsWith (b : List ℕ) (h : RequestHead) (rest : List ℕ) : Type 0 where
  pub reads : ReadsRequest b h rest
  pub short : length (print_request h) ≤ head_limit

-- ---- what stands at the front

-- the names and the values of a head's fields
abbrev pub headers_of : RequestHead → List Header
headers_of h = map name_and_value h.fields

-- a field line of a message, with its name in lower case
abbrev pub field_of : Header → Field
field_of header = record { name = map to_ascii_lowercase header.0; value = header.1 }

-- the message of a head and a body
abbrev pub message_of : RequestHead → List ℕ → Message
message_of h body = record {
  method = h.method;
  target = h.target;
  fields = map field_of (headers_of h);
  body = body;
  last = h.minor == 0 || asks_to_close (headers_of h);
}

-- b is this message, and then rest
pub record IsMessage (b : List ℕ) (m : Message) (rest : List ℕ) : Type 0 where
  pub head : RequestHead
  pub begins : BeginsWith b head (m.body ++ rest)
  pub framed : framing_of (headers_of head) ≡ Body (length m.body)
  pub is : m ≡ message_of head m.body

-- b is refused, by the first rule that refuses it
pub data IsRefusedFor (b : List ℕ) : EdgeFault → Type 0 where
  no_head : IsNoHead (window b) → IsRefusedFor b BadHead
  too_long : IsUndecided (window b) → head_limit ≤ length b → IsRefusedFor b TooLarge
  by_head : (fault : EdgeFault) (h : RequestHead) (rest : List ℕ) → BeginsWith b h rest
      → framing_of (headers_of h) ≡ Refused fault → IsRefusedFor b fault

-- b is less than a whole message, and isn't refused
pub data IsOpen (b : List ℕ) : Type 0 where
  in_head : IsUndecided (window b) → length b < head_limit → IsOpen b
  in_body : (h : RequestHead) (rest : List ℕ) (n : ℕ) → BeginsWith b h rest
      → framing_of (headers_of h) ≡ Body n → length rest < n → IsOpen b

-- b begins with no whole message
abbrev pub HasNoMessage : List ℕ → Type 0
HasNoMessage b = (m : Message) (rest : List ℕ) → ¬ (IsMessage b m rest)

-- b is these messages, one behind another, and then rest
abbrev pub Messages : List ℕ → List Message → List ℕ → Type 0
Messages b [] rest = b ≡ rest
Messages b (m ∷ more) rest = (after : List ℕ) × IsMessage b m after × Messages after more rest
