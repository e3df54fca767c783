-- What the steps of reading a message do.
use Rattle.std.specs.Prelude.{◌≡◌, ℕ, ◌+◌, ◌<◌, ◌≤◌, Bool, true, false, List, [], ◌∷◌, ◌++◌, length, drop, if◌then◌else◌, ◌==◌}
use Rattle.httparse.specs.Grammar.{print_request, is_token_byte, RequestHead, ReadsRequest}
use Rattle.httparse.specs.Spans.{span_bytes, IsWithin, IsRequestWithin, IsRequestOf}
use Rattle.httparse.specs.declared.spans.HeaderSpan.{HeaderSpan}
use Rattle.outside.specs.Outside.{Told, Takes, IsAtEnd, Rose}
use Rattle.http_edge.specs.declared.fault.EdgeFault.{EdgeFault}
use Rattle.http_edge.specs.declared.fault.EdgeFault.TheVariants as faults
use Rattle.http_edge.specs.declared.framing.Framing.{Framing}
use Rattle.http_edge.specs.declared.framing.Framing.TheVariants.{Refused, Body}
use Rattle.http_edge.specs.declared.framing.LengthField.{LengthField}
use Rattle.http_edge.specs.declared.framing.LengthField.TheVariants.{Absent, One, Several}
use Rattle.http_edge.specs.declared.places.RequestPlace.{RequestPlace}
use Rattle.http_edge.specs.declared.places.RequestPlace.TheVariants.{BlankLines, BehindCr, Method, Target, Elsewhere}
use Rattle.http_edge.specs.declared.places.LinePlace.{LinePlace}
use Rattle.http_edge.specs.declared.places.LinePlace.TheVariants as line
use Rattle.http_edge.specs.declared.request_heads.LeadingHead.{LeadingHead}
use Rattle.http_edge.specs.declared.request_heads.LeadingHead.TheVariants as heads
use Rattle.http_edge.specs.declared.messages.Beginning.{Beginning}
use Rattle.http_edge.specs.declared.messages.Beginning.TheVariants as beginnings
use Rattle.http_edge.specs.declared.messages.Want.{Want}
use Rattle.http_edge.specs.declared.messages.Want.TheVariants as wants
use Rattle.http_edge.specs.declared.held.Arrival.{Arrival}
use Rattle.http_edge.specs.declared.held.Arrival.TheVariants as arrival
use Rattle.http_edge.specs.Limits.{head_limit, field_limit, body_limit, message_limit}
use Rattle.http_edge.specs.Framing.{framing_of}
use Rattle.http_edge.specs.Streams.{is_inner, IsUndecided, IsNoHead, BeginsWith, headers_of, IsMessage, IsRefusedFor, IsOpen}

-- ---- the fields

-- which values of `Content-Length` there are
abbrev pub HasLengths : List ℕ → LengthField → List (List ℕ) → Type 0
HasLengths head Absent values = values ≡ []
HasLengths head (One span) values = IsWithin (length head) span × (values ≡ span_bytes head span ∷ [])
HasLengths head Several values = 1 < length values

-- a fault of the bytes, and not of the source, the memory or the end
abbrev pub IsOfBytes : EdgeFault → Type 0
IsOfBytes faults.BadHead = Unit {0}
IsOfBytes faults.TooLarge = Unit {0}
IsOfBytes faults.Coded = Unit {0}
IsOfBytes _ = ⊥

-- the length of a body is within the limit
abbrev pub IsBounded : Framing → Type 0
IsBounded (Body n) = n ≤ body_limit
IsBounded (Refused fault) = IsOfBytes fault

-- ---- the head

-- where a byte leads in front of a request target, and in it
abbrev pub next_place : RequestPlace → ℕ → RequestPlace
next_place BlankLines c = if c == 10 then BlankLines else (if c == 13 then BehindCr else (if is_token_byte c then Method else Elsewhere))
next_place BehindCr c = if c == 10 then BlankLines else Elsewhere
next_place Method c = if is_token_byte c then Method else (if c == 32 then Target else Elsewhere)
next_place Target c = if is_inner c then Target else Elsewhere
next_place Elsewhere c = Elsewhere

abbrev pub is_target : RequestPlace → Bool
is_target BlankLines = false
is_target BehindCr = false
is_target Method = false
is_target Target = true
is_target Elsewhere = false

-- where a byte leads among the lines of a head
abbrev pub next_line_place : LinePlace → ℕ → LinePlace
next_line_place line.BlankLines c = if c == 10 then line.BlankLines else (if c == 13 then line.BlankLines else line.InLine)
next_line_place line.InLine c = if c == 10 then line.LineStart else line.InLine
next_line_place line.LineStart c = if c == 10 then line.BehindHead else (if c == 13 then line.StartBehindCr else line.InLine)
next_line_place line.StartBehindCr c = if c == 10 then line.BehindHead else line.InLine
next_line_place line.BehindHead c = line.BehindHead

abbrev pub is_behind_head : LinePlace → Bool
is_behind_head line.BlankLines = false
is_behind_head line.InLine = false
is_behind_head line.LineStart = false
is_behind_head line.StartBehindCr = false
is_behind_head line.BehindHead = true

-- w begins with a head that has more than 64 fields
pub record HasManyFields (w : List ℕ) : Type 0 where
  pub head : RequestHead
  pub rest : List ℕ
  pub reads : ReadsRequest w head rest
  pub many : field_limit < length head.fields

-- what is said of a head at the front of w, with its fields in these spans
abbrev pub IsLeadingHead : List ℕ → List HeaderSpan → LeadingHead → Type 0
IsLeadingHead w headers (heads.Head spans) = IsRequestWithin w headers spans × IsRequestOf w headers spans
IsLeadingHead w headers heads.ManyFields = HasManyFields w
IsLeadingHead w headers heads.Never = IsNoHead w
IsLeadingHead w headers heads.Undecided = IsUndecided w

-- no head of at most 64 fields
abbrev pub IsNoShortHead : LeadingHead → Type 0
IsNoShortHead (heads.Head spans) = ⊥
IsNoShortHead _ = Unit {0}

-- ---- the front

-- b begins with a head, and a body of the length that it says would end at this place
pub record EndsAt (b : List ℕ) (end : ℕ) : Type 0 where
  pub head : RequestHead
  pub rest : List ℕ
  pub count : ℕ
  pub begins : BeginsWith b head rest
  pub framed : framing_of (headers_of head) ≡ Body count
  pub end_is : end ≡ length (print_request head) + count

-- b is less than a whole message, and this is what it wants
abbrev pub IsWaiting : List ℕ → Want → Type 0
IsWaiting b wants.MoreOfHead = IsOpen b × (length b < head_limit)
IsWaiting b (wants.UpTo end) = EndsAt b end × (length b < end) × (end ≤ message_limit)

-- what is said of the front of b
abbrev pub IsBeginningOf : List ℕ → Beginning → Type 0
IsBeginningOf b (beginnings.Whole m used) = (used ≤ length b) × IsMessage b m (drop used b)
IsBeginningOf b (beginnings.Refused fault) = IsRefusedFor b fault × IsOfBytes fault
IsBeginningOf b (beginnings.Unfinished want) = IsWaiting b want

-- ---- the source

-- bytes were read, and stand behind those that were held
pub record Grows (held held_now : List ℕ) (before after : Told) : Type 0 where
  pub came : List ℕ
  pub takes : Takes came before after
  pub behind : held_now ≡ held ++ came

-- what asking the source for more did
abbrev pub HasArrived : Arrival → List ℕ → List ℕ → Told → Told → ℕ → ℕ → Type 0
HasArrived arrival.More held held_now before after faults faults_now =
    Grows held held_now before after × (length held < length held_now) × (faults_now ≡ faults)
HasArrived arrival.End held held_now before after faults faults_now =
    Grows held held_now before after × IsAtEnd after × (faults_now ≡ faults)
HasArrived arrival.Failed held held_now before after faults faults_now =
    Grows held held_now before after × Rose faults faults_now
HasArrived arrival.Memory held held_now before after faults faults_now =
    Grows held held_now before after × (faults_now ≡ faults)
