-- What lets requests through at a resource server with a cache, turn by turn.
use Rattle.std.specs.Prelude.{◌≡◌, ◌⊎◌, ℕ, ◌+◌, ◌<◌, ◌≤◌, Bool, List, [], ◌∷◌, ◌++◌, Option, Some, Contains}
use Rattle.outside.specs.Gears.{Log, GearState}
use Rattle.outside.specs.Links.{Exchange, LinkState}
use Rattle.outside.specs.Outside.{Served}
use Rattle.histories.specs.Turns.{Each, entries_in}
use Rattle.http_edge.specs.declared.fault.EdgeFault.{EdgeFault}
use Rattle.serving.specs.Logs.{joined}
use Rattle.serving.specs.declared.ends.ConnectionEnd.{ConnectionEnd}
use Rattle.gnap_model.specs.declared.rights.Right.{Right}
use Rattle.reply_readers.specs.declared.judgement.Judgement.TheVariants.{Active}
use Rattle.signed_requests.specs.declared.unsigned.Scheme.{Scheme}
use Rattle.resource_server.specs.declared.setup.Route.{Route}
use Rattle.resource_server.specs.declared.setup.RsSetup.{RsSetup}
use Rattle.resource_server.specs.declared.guarded.Guarded.{Guarded}
use Rattle.resource_server.specs.declared.guarded.Guarded.TheVariants as guarded
use Rattle.resource_server.specs.Introspecting.{question_text, introspection_bytes}
use Rattle.resource_server.specs.Guarding.{SaysOfToken, Guards}
use Rattle.resource_server.specs.Laws.{Presents, AllowedByReply, IsIntrospected}
use Rattle.introspection_cache.specs.declared.kept_reply.KeptReply.{KeptReply}
use Rattle.introspection_cache.specs.Caching.{Cache, Caches, fresh_to, new_cache}
use Rattle.rs_edge.specs.GuardedSteps.{GuardedStep, Chained, exchanges_in}
use Rattle.rs_edge.specs.RsTurns.{RsTurn, IsRsTurn}
use Rattle.rs_edge.specs.RsSessions.{ServesResources, IsRsAccount}

-- ---- turns with a cache

-- a turn of a message at any place of a connection
abbrev pub IsCachedTurn : RsSetup → RsTurn Cache → Type 0
IsCachedTurn setup turn = (last : Bool) × IsRsTurn Caches setup last turn

-- Turns were taken one after another, also on several connections, from a new cache of this capacity to this one.
pub record AreCachedTurns (setup : RsSetup) (capacity : ℕ) (turns : List (RsTurn Cache)) (cache : Cache) : Type 0 where
  pub each : Each (IsCachedTurn setup) turns
  pub chained : Chained (new_cache capacity) (entries_in turns) cache

-- what guarding the message of a turn did
abbrev pub IsGuarded : RsTurn Cache → GuardedStep Cache → Type 0
IsGuarded turn step = turn.entries ≡ step ∷ []

-- the one exchange of a turn: the introspection with this question, signed at its moment, and this reply
abbrev pub BroughtReply : RsSetup → RsTurn Cache → List ℕ → List ℕ → Type 0
BroughtReply setup turn text reply = IsIntrospected setup turn.moment text reply (exchanges_in turn.entries)

-- ---- a request that is let through

-- Nothing was asked in a turn: the reply came in one of these turns, to the same question, at most 30 seconds before, and by it the token is live still.
pub record WasKept (setup : RsSetup) (earlier : List (RsTurn Cache)) (turn : RsTurn Cache) (text reply : List ℕ) : Type 0 where
  pub silent : exchanges_in turn.entries ≡ []
  pub source : RsTurn Cache
  pub among : Contains earlier source
  pub brought : BroughtReply setup source text reply
  pub begun : source.moment ≤ turn.moment
  pub recent : turn.moment ≤ source.moment + 30
  pub access : List Right
  pub key : Option (List ℕ)
  pub exp : ℕ
  pub active : SaysOfToken reply (Active access key exp)
  pub lasts : turn.moment < exp

-- The answer of a turn is that of `guard` at its moment, had the introspection of its token been asked and brought a reply that was kept.
pub record IsAnsweredByKept (setup : RsSetup) (earlier : List (RsTurn Cache)) (turn : RsTurn Cache) (answer : Guarded) : Type 0 where
  pub place : ℕ
  pub route : Route
  pub token : Scheme × List ℕ
  pub presents : Presents setup turn.message place route token
  pub reply : List ℕ
  pub kept : WasKept setup earlier turn (question_text setup route token) reply
  pub request : List ℕ
  pub request_is : introspection_bytes setup turn.moment (question_text setup route token) ≡ Some request
  pub guards : Guards setup turn.message turn.moment ((request, Some reply) ∷ []) answer

-- The request of a turn was let through to the route at a place: it has all that this takes by one reply to the question about its token, and where the
-- token is bound, its key has signed this request, by this moment (`AllowedByReply`). The reply came in this turn, or in an earlier one.
pub record IsLetThrough (setup : RsSetup) (earlier : List (RsTurn Cache)) (turn : RsTurn Cache) (i : ℕ) : Type 0 where
  pub reply : List ℕ
  pub by_reply : AllowedByReply setup turn.message turn.moment i reply
  pub came : BroughtReply setup turn (question_text setup by_reply.route by_reply.token) reply
      ⊎ WasKept setup earlier turn (question_text setup by_reply.route by_reply.token) reply

-- What holds of a turn after these.
pub record IsByCache (setup : RsSetup) (earlier : List (RsTurn Cache)) (turn : RsTurn Cache) : Type 0 where
  -- its answer is that of `guard`: by its exchanges, or by a reply that was kept
  pub is_guard : (step : GuardedStep Cache) → IsGuarded turn step
      → Guards setup turn.message turn.moment step.exchanges step.answer ⊎ IsAnsweredByKept setup earlier turn step.answer
  -- how its request was let through
  pub through : (step : GuardedStep Cache) (i : ℕ) → IsGuarded turn step → step.answer ≡ guarded.Allow i → IsLetThrough setup earlier turn i
  -- nothing was asked where a fresh reply to its question was kept
  pub silent : (step : GuardedStep Cache) (i : ℕ) (route : Route) (token : Scheme × List ℕ) (r : KeptReply) → IsGuarded turn step
      → Presents setup turn.message i route token → fresh_to (question_text setup route token) turn.moment step.before.kept ≡ Some r
      → exchanges_in turn.entries ≡ []

-- it holds of each of these turns
abbrev pub AreByCache : RsSetup → List (RsTurn Cache) → Type 0
AreByCache setup turns = (earlier later : List (RsTurn Cache)) (turn : RsTurn Cache) → turns ≡ earlier ++ turn ∷ later → IsByCache setup earlier turn

-- ---- where it holds

-- of all turns with a cache that was new
abbrev pub CachedTurnsMean : Type 0
CachedTurnsMean = (setup : RsSetup) (capacity : ℕ) (turns : List (RsTurn Cache)) (cache : Cache) → AreCachedTurns setup capacity turns cache
    → AreByCache setup turns

-- of what a gear and a link tell, where the cache was new
abbrev pub AccountsMean : RsSetup → ℕ → Type 0
AccountsMean setup capacity = (log : Log) (asked : List Exchange) (last : Cache)
    → (account : IsRsAccount Caches setup (new_cache capacity) log asked last) → AreByCache setup (joined account.turns)

abbrev pub CachedAccountsMean : Type 0
CachedAccountsMean = (setup : RsSetup) (capacity : ℕ) → AccountsMean setup capacity

-- A connection was served with a cache. Where it was new before turns on earlier connections, they and the turns of this one go on from it.
pub record ServesCached (setup : RsSetup) (link link_now : LinkState) (cache cache_now : Cache) (gear gear_now : GearState) (conn : Served)
    (ended : ConnectionEnd EdgeFault) : Type 0 where
  pub serves : ServesResources Caches setup link link_now cache cache_now gear gear_now conn ended
  pub goes_on : (capacity : ℕ) (earlier : List (RsTurn Cache)) → AreCachedTurns setup capacity earlier cache
      → AreCachedTurns setup capacity (earlier ++ serves.turns) cache_now
  pub by_cache : (capacity : ℕ) (earlier : List (RsTurn Cache)) → AreCachedTurns setup capacity earlier cache → AreByCache setup (earlier ++ serves.turns)
