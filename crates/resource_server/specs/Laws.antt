-- When a request is let through, and when it is refused.
use Rattle.std.specs.Prelude.{◌≡◌, ◌≢◌, ◌⊎◌, ℕ, true, false, List, [], ◌∷◌, filter, Option, Some, None, Ok, codes, slice_get}
use Rattle.std.specs.List.{list_any}
use Rattle.outside.specs.Links.{Exchange}
use Rattle.bytes_and_lists.specs.declared.message.Message.{Message}
use Rattle.gnap_model.specs.declared.rights.Right.{Right}
use Rattle.gnap_model.specs.Rights.{covers}
use Rattle.message_signature.specs.Components.{target_path}
use Rattle.message_signature.specs.Verified.{verified}
use Rattle.reply_readers.specs.declared.judgement.Judgement.TheVariants.{Active, Inactive}
use Rattle.signed_requests.specs.declared.unsigned.Scheme.{Scheme}
use Rattle.resource_server.specs.declared.setup.Route.{Route}
use Rattle.resource_server.specs.declared.setup.RsSetup.{RsSetup}
use Rattle.resource_server.specs.declared.guarded.Guarded.{Guarded}
use Rattle.resource_server.specs.declared.guarded.Guarded.TheVariants as guarded
use Rattle.resource_server.specs.declared.guarded.Why.{Why}
use Rattle.resource_server.specs.declared.guarded.Why.TheVariants as why
use Rattle.resource_server.specs.Routing.{has_path, is_route, route_of, is_authorization, only_value, presented_at, question_of}
use Rattle.resource_server.specs.Introspecting.{question_text, introspection_bytes}
use Rattle.resource_server.specs.Guarding.{SaysOfToken, SaysNothing, Guards, status_of}

-- ---- when it is let through

-- the token is a bearer token, or its key has signed the message
abbrev pub HasSigned : RsSetup → Message → ℕ → Option (List ℕ) → Type 0
HasSigned setup m now None = Unit {0}
HasSigned setup m now (Some key) = verified m setup.base setup.ring now (codes "gnap") ≡ Ok key

-- the route at a place is the message's, and the token is the one that it presents
pub record Presents (setup : RsSetup) (m : Message) (i : ℕ) (route : Route) (token : Scheme × List ℕ) : Type 0 where
  pub question : question_of setup.routes m ≡ Ok (i, token)
  pub route_is : slice_get setup.routes i ≡ Some route

-- one exchange was made: the introspection with this question, signed at this moment, and its reply
pub record IsIntrospected (setup : RsSetup) (now : ℕ) (text reply : List ℕ) (exchanges : List Exchange) : Type 0 where
  pub request : List ℕ
  pub request_is : introspection_bytes setup now text ≡ Some request
  pub exchanged : exchanges ≡ (request, Some reply) ∷ []

-- All that it takes that a request is let through to the route at a place, by this reply to the question about its token.
pub record AllowedByReply (setup : RsSetup) (m : Message) (now i : ℕ) (reply : List ℕ) : Type 0 where
  pub route : Route
  pub token : Scheme × List ℕ
  pub presents : Presents setup m i route token
  -- the reply says that the token is live; its rights cover the route's, and where it is bound, its key has signed the message
  pub access : List Right
  pub key : Option (List ℕ)
  pub exp : ℕ
  pub active : SaysOfToken reply (Active access key exp)
  pub covered : covers access (route.right ∷ []) ≡ true
  pub signed : HasSigned setup m now key

-- The same, with the exchanges: one was made, for the reply.
pub record IsAllowed (setup : RsSetup) (m : Message) (now i : ℕ) (exchanges : List Exchange) : Type 0 where
  pub reply : List ℕ
  pub by_reply : AllowedByReply setup m now i reply
  pub introspected : IsIntrospected setup now (question_text setup by_reply.route by_reply.token) reply exchanges

-- a request that is let through has all of it
abbrev pub AllowMeans : Type 0
AllowMeans = (setup : RsSetup) (m : Message) (now i : ℕ) (exchanges : List Exchange)
    → Guards setup m now exchanges (guarded.Allow i) → IsAllowed setup m now i exchanges

-- a request that has all of it is let through, or memory ran out
abbrev pub AllowComes : Type 0
AllowComes = (setup : RsSetup) (m : Message) (now i : ℕ) (exchanges : List Exchange) (answer : Guarded)
    → Guards setup m now exchanges answer → IsAllowed setup m now i exchanges → (answer ≡ guarded.Allow i) ⊎ (answer ≡ guarded.Memory)

-- a request ends with the link's fault exactly where its exchange has no reply
abbrev pub FaultMeans : Type 0
FaultMeans = (setup : RsSetup) (m : Message) (now : ℕ) (exchanges : List Exchange) (answer : Guarded) → Guards setup m now exchanges answer
    → (answer ≡ guarded.LinkFault → (request : List ℕ) × (exchanges ≡ (request, None) ∷ []))
    × ((request : List ℕ) → exchanges ≡ (request, None) ∷ [] → answer ≡ guarded.LinkFault)

-- ---- when it is refused

-- the token that the message presents for a route was introspected for the route's right, and this reply came
pub record GotReply (setup : RsSetup) (m : Message) (now : ℕ) (route : Route) (reply : List ℕ) (exchanges : List Exchange) : Type 0 where
  pub place : ℕ
  pub token : Scheme × List ℕ
  pub presents : Presents setup m place route token
  pub introspected : IsIntrospected setup now (question_text setup route token) reply exchanges

-- What each reason for a refusal takes. For the first three nothing is asked, for the others one reply came.
abbrev pub IsCause : RsSetup → Message → ℕ → List Exchange → Why → Type 0
-- no route has the message's path
IsCause setup m now exchanges why.NoRoute = (exchanges ≡ []) × (list_any (has_path (target_path m.target)) setup.routes ≡ false)
-- a route has it, and none of those has the message's method
IsCause setup m now exchanges why.NoMethod =
    (exchanges ≡ []) × (list_any (has_path (target_path m.target)) setup.routes ≡ true)
    × (list_any (is_route m.method (target_path m.target)) setup.routes ≡ false)
-- a route has both, and no token is presented in the one `Authorization` field
IsCause setup m now exchanges why.NoToken =
    (exchanges ≡ []) × (i : ℕ) × (route_of setup.routes m ≡ Ok i) × (presented_at (only_value (filter is_authorization m.fields)) ≡ None)
-- the reply says nothing of a token
IsCause setup m now exchanges (why.BadReply reply) = (route : Route) × GotReply setup m now route reply exchanges × SaysNothing reply
-- it says that there is no such token
IsCause setup m now exchanges why.Inactive =
    (route : Route) × (reply : List ℕ) × GotReply setup m now route reply exchanges × SaysOfToken reply Inactive
-- it says that the token is live, and its rights don't cover the route's
IsCause setup m now exchanges why.TooNarrow =
    (route : Route) × (reply : List ℕ) × GotReply setup m now route reply exchanges
    × (access : List Right) × (key : Option (List ℕ)) × (exp : ℕ) × SaysOfToken reply (Active access key exp) × (covers access (route.right ∷ []) ≡ false)
-- they do, the token is bound to a key, and that key hasn't signed the message
IsCause setup m now exchanges why.Signature =
    (route : Route) × (reply : List ℕ) × GotReply setup m now route reply exchanges
    × (access : List Right) × (key : List ℕ) × (exp : ℕ) × SaysOfToken reply (Active access (Some key) exp) × (covers access (route.right ∷ []) ≡ true)
    × (verified m setup.base setup.ring now (codes "gnap") ≢ Ok key)

-- a refusal has the status of its reason, and the reason has its cause
abbrev pub DenyMeans : Type 0
DenyMeans = (setup : RsSetup) (m : Message) (now status : ℕ) (reason : Why) (exchanges : List Exchange)
    → Guards setup m now exchanges (guarded.Deny status reason) → (status ≡ status_of reason) × IsCause setup m now exchanges reason
