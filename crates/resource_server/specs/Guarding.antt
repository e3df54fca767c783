-- What a resource server answers to a request.
use Rattle.std.specs.Prelude.{◌≡◌, ◌<◌, ℕ, Bool, true, false, not, List, [], ◌∷◌, ◌++◌, length, Option, Some, None, Result, Ok, Err, if◌then◌else◌, codes, slice_get}
use Rattle.std.specs.Str.{bytes_eq}
use Rattle.outside.specs.Outside.{Rose}
use Rattle.outside.specs.Links.{Exchange, LinkState}
use Rattle.outside.specs.declared.link.LinkFault.{LinkFault}
use Rattle.outside.specs.declared.link.LinkFault.TheVariants as link_faults
use Rattle.bytes_and_lists.specs.declared.message.Message.{Message}
use Rattle.gnap_model.specs.declared.rights.Right.{Right}
use Rattle.gnap_model.specs.Rights.{covers}
use Rattle.http_edge.specs.ReadReplies.{IsHttpReply}
use Rattle.message_signature.specs.declared.fault.SigFault.{SigFault}
use Rattle.message_signature.specs.Verified.{verified}
use Rattle.reply_readers.specs.declared.judgement.Judgement.{Judgement}
use Rattle.reply_readers.specs.declared.judgement.Judgement.TheVariants.{Active, Inactive}
use Rattle.reply_readers.specs.Introspections.{judgement}
use Rattle.signed_requests.specs.declared.unsigned.Scheme.{Scheme}
use Rattle.resource_server.specs.declared.setup.Route.{Route}
use Rattle.resource_server.specs.declared.setup.RsSetup.{RsSetup}
use Rattle.resource_server.specs.declared.guarded.Guarded.{Guarded}
use Rattle.resource_server.specs.declared.guarded.Guarded.TheVariants as guarded
use Rattle.resource_server.specs.declared.guarded.Why.{Why}
use Rattle.resource_server.specs.declared.guarded.Why.TheVariants as why
use Rattle.resource_server.specs.Routing.{question_of}
use Rattle.resource_server.specs.Introspecting.{question_text, introspection_bytes}

-- ---- the authorization server's reply

-- the bytes are a reply that says this of a token
pub record SaysOfToken (bytes : List ℕ) (says : Judgement) : Type 0 where
  pub status : ℕ
  pub body : List ℕ
  pub reply : IsHttpReply bytes status body
  pub read : judgement status body ≡ Some says

-- the bytes say nothing of a token
abbrev pub SaysNothing : List ℕ → Type 0
SaysNothing bytes = (says : Judgement) → ¬ (SaysOfToken bytes says)

-- what is said of a token, or nothing
abbrev pub SaysToken : List ℕ → Option Judgement → Type 0
SaysToken bytes (Some says) = SaysOfToken bytes says
SaysToken bytes None = SaysNothing bytes

-- ---- the answer

abbrev pub is_key : List ℕ → Result (List ℕ) SigFault → Bool
is_key key (Ok id) = bytes_eq id key
is_key key (Err fault) = false

-- a bound token's key has signed the message
abbrev pub has_signed : RsSetup → Message → ℕ → Option (List ℕ) → Bool
has_signed setup m now None = true
has_signed setup m now (Some key) = is_key key (verified m setup.base setup.ring now (codes "gnap"))

-- the answer where this is said of the token, for the route at a place that needs these rights
abbrev pub answer_of : RsSetup → Message → ℕ → ℕ → List Right → Judgement → Guarded
answer_of setup m now i wanted Inactive = guarded.Deny 401 why.Inactive
answer_of setup m now i wanted (Active access key exp) =
    if not (covers access wanted) then guarded.Deny 403 why.TooNarrow
    else (if has_signed setup m now key then guarded.Allow i else guarded.Deny 401 why.Signature)

-- the answer to a reply, or to its want
pub data Judged (setup : RsSetup) (m : Message) (now i : ℕ) (wanted : List Right) : Result (List ℕ) LinkFault → Guarded → Type 0 where
  said : (reply : List ℕ) → (says : Judgement) → SaysOfToken reply says
      → Judged setup m now i wanted (Ok reply) (answer_of setup m now i wanted says)
  said_nothing : (reply : List ℕ) → SaysNothing reply → Judged setup m now i wanted (Ok reply) (guarded.Deny 502 (why.BadReply reply))
  failed : Judged setup m now i wanted (Err link_faults.Failed) guarded.LinkFault
  no_room : Judged setup m now i wanted (Err link_faults.OutOfMemory) guarded.Memory
  no_room_after : (reply : List ℕ) → Judged setup m now i wanted (Ok reply) guarded.Memory

-- ---- the exchanges

-- the exchange that was made, by what the link answered; for want of memory none was
abbrev pub exchanges_of : List ℕ → Result (List ℕ) LinkFault → List Exchange
exchanges_of request (Ok reply) = (request, Some reply) ∷ []
exchanges_of request (Err link_faults.Failed) = (request, None) ∷ []
exchanges_of request (Err link_faults.OutOfMemory) = []

-- the count of faults rose with each exchange that has no reply, and with nothing else
abbrev pub CountsReply : Option (List ℕ) → ℕ → ℕ → Type 0
CountsReply (Some reply) before after = after ≡ before
CountsReply None before after = Rose before after

abbrev pub CountsExchanges : List Exchange → ℕ → ℕ → Type 0
CountsExchanges [] before after = after ≡ before
CountsExchanges (e ∷ es) before after = (between : ℕ) × CountsReply e.1 before between × CountsExchanges es between after

-- a link has these exchanges more
pub record AddsExchanges (exchanges : List Exchange) (before after : LinkState) : Type 0 where
  pub adds : after.asked ≡ before.asked ++ exchanges
  pub counts : CountsExchanges exchanges before.faults after.faults

-- ---- the whole

-- What a request comes to, by the exchanges that were made for it: one at most.
pub data Guards (setup : RsSetup) (m : Message) (now : ℕ) : List Exchange → Guarded → Type 0 where
  -- it was refused before anything was asked
  at_once : (answer : Guarded) → question_of setup.routes m ≡ Err answer → Guards setup m now [] answer
  -- memory ran out before anything was asked
  starved : Guards setup m now [] guarded.Memory
  -- the token was introspected for the route's right
  asked : (i : ℕ) → (token : Scheme × List ℕ) → question_of setup.routes m ≡ Ok (i, token)
      → (route : Route) → slice_get setup.routes i ≡ Some route
      → (request : List ℕ) → introspection_bytes setup now (question_text setup route token) ≡ Some request
      → (reply : Result (List ℕ) LinkFault)
      → (answer : Guarded) → Judged setup m now i (route.right ∷ []) reply answer → Guards setup m now (exchanges_of request reply) answer

-- A request came to an answer over a link that counted and told this before, and that after: by the exchanges that the link then has more.
pub record GuardsOver (guards : List Exchange → Guarded → Type 0) (before after : LinkState) (answer : Guarded) : Type 0 where
  pub exchanges : List Exchange
  pub guarded : guards exchanges answer
  pub over : AddsExchanges exchanges before after

-- ---- which answers there are

-- the status of a refusal
abbrev pub status_of : Why → ℕ
status_of why.NoRoute = 404
status_of why.NoMethod = 405
status_of why.NoToken = 401
status_of (why.BadReply bytes) = 502
status_of why.Inactive = 401
status_of why.TooNarrow = 403
status_of why.Signature = 401

-- what is let through has a route, and a refusal has its status
abbrev pub IsAnswer : RsSetup → Guarded → Type 0
IsAnswer setup (guarded.Allow i) = i < length setup.routes
IsAnswer setup (guarded.Deny status reason) = status ≡ status_of reason
IsAnswer setup guarded.LinkFault = Unit {0}
IsAnswer setup guarded.Memory = Unit {0}
