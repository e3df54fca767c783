-- The bytes of a reply (RFC 9112, sections 4 to 6).
use Rattle.std.specs.Prelude.{◌≡◌, ◌↔◌, ℕ, ◌==◌, nat_le, Bool, true, ◌&&◌, ◌||◌, List, [], ◌∷◌, ◌++◌, length, if◌then◌else◌, codes, decimal, unwrap_or, Option, Some, None}
use Rattle.std.specs.List.{list_all, list_any}
use Rattle.http.specs.StatusCode.{code_digits, reason_phrase}
use Rattle.http_edge.specs.declared.fault.EdgeFault.{EdgeFault}
use Rattle.http_edge.specs.declared.fault.EdgeFault.TheVariants as faults
use Rattle.http_edge.specs.declared.reply.HttpReply.{HttpReply}
use Rattle.http_edge.specs.declared.reply.Extra.{Extra}
use Rattle.http_edge.specs.declared.reply.Extra.TheVariants.{Nothing, Allow, Challenge}

-- ---- the text

-- the statuses that are used (RFC 9110, section 15)
abbrev pub used_statuses : List ℕ
used_statuses = 200 ∷ 204 ∷ 400 ∷ 401 ∷ 403 ∷ 404 ∷ 405 ∷ 413 ∷ 501 ∷ 502 ∷ 503 ∷ []

abbrev pub is_used : ℕ → Bool
is_used status = list_any (λ used. status == used) used_statuses

-- the phrase of a status, as Rust's crate `http` has it
abbrev pub phrase_of : ℕ → List ℕ
phrase_of status = unwrap_or (reason_phrase status) []

-- the status line (RFC 9112, section 4)
abbrev pub status_line : ℕ → List ℕ
status_line status = codes "HTTP/1.1 " ++ (code_digits status ++ (codes " " ++ (phrase_of status ++ codes "\r\n")))

-- `Content-Type`, where there is a body
abbrev pub type_line : Option (List ℕ) → List ℕ
type_line None = []
type_line (Some body) = codes "Content-Type: application/json\r\n"

-- `Allow` or `WWW-Authenticate`
abbrev pub extra_line : Extra → List ℕ
extra_line Nothing = []
extra_line (Allow methods) = codes "Allow: " ++ (methods ++ codes "\r\n")
extra_line Challenge = codes "WWW-Authenticate: GNAP\r\n"

-- `Connection`, where the connection closes behind the reply
abbrev pub close_line : Bool → List ℕ
close_line last = if last then codes "Connection: close\r\n" else []

-- `Content-Length` with these digits, unless the status is 204 (RFC 9110, section 8.6)
abbrev pub length_line : ℕ → List ℕ → List ℕ
length_line status digits = if status == 204 then [] else (codes "Content-Length: " ++ (digits ++ codes "\r\n"))

-- the bytes of the body, none where there is no body
abbrev pub body_bytes : Option (List ℕ) → List ℕ
body_bytes None = []
body_bytes (Some body) = body

-- the status line, the field lines and the empty line
unfoldable pub head_bytes : HttpReply → List ℕ
head_bytes r =
    status_line r.status ++ (type_line r.body ++ (codes "Cache-Control: no-store\r\n" ++ (extra_line r.extra ++ (close_line r.last
    ++ (length_line r.status (decimal (length (body_bytes r.body))) ++ codes "\r\n")))))

-- the bytes of a reply
unfoldable pub reply_bytes : HttpReply → List ℕ
reply_bytes r = head_bytes r ++ body_bytes r.body

-- ---- which replies are written

-- an upper-case letter, a comma or SP
abbrev pub is_method_byte : ℕ → Bool
is_method_byte b = nat_le 65 b && nat_le b 90 || b == 44 || b == 32

-- a list of methods is in upper-case letters, with commas and SP between them
abbrev pub HasMethods : Extra → Type 0
HasMethods Nothing = Unit {0}
HasMethods (Allow methods) = list_all is_method_byte methods ≡ true
HasMethods Challenge = Unit {0}

-- the reply may be written: it has the challenge exactly at 401 (RFC 9110, section 15.5.2), and no body at 204
pub record MayWrite (r : HttpReply) : Type 0 where
  pub status : is_used r.status ≡ true
  pub challenge : (r.status ≡ 401) ↔ (r.extra ≡ Challenge)
  pub methods : HasMethods r.extra
  pub no_content : r.status ≡ 204 → r.body ≡ None

-- ---- replies that are fixed

-- with the challenge where the status is 401
abbrev pub plain_reply : ℕ → Option (List ℕ) → Bool → HttpReply
plain_reply status body last = record {
  status = status;
  extra = if status == 401 then Challenge else Nothing;
  body = body;
  last = last;
}

-- what is written where memory ran out
abbrev pub busy_reply : HttpReply
busy_reply = plain_reply 503 None true

-- what is written before the connection closes on a fault, where anything is
abbrev pub fault_reply : EdgeFault → Option HttpReply
fault_reply faults.BadHead = Some (plain_reply 400 None true)
fault_reply faults.TooLarge = Some (plain_reply 413 None true)
fault_reply faults.Coded = Some (plain_reply 501 None true)
fault_reply faults.Truncated = None
fault_reply faults.ReadFault = None
fault_reply faults.OutOfMemory = Some busy_reply
