-- What holds of requests that are guarded with a cache, one after another.
use Rattle.std.specs.Prelude.{◌≡◌, ◌⊎◌, ℕ, ◌+◌, ◌<◌, ◌≤◌, List, [], ◌∷◌, length, Option, Some, Contains}
use Rattle.outside.specs.Links.{Exchange}
use Rattle.bytes_and_lists.specs.declared.message.Message.{Message}
use Rattle.gnap_model.specs.declared.rights.Right.{Right}
use Rattle.reply_readers.specs.declared.judgement.Judgement.TheVariants.{Active}
use Rattle.signed_requests.specs.declared.unsigned.Scheme.{Scheme}
use Rattle.resource_server.specs.declared.setup.Route.{Route}
use Rattle.resource_server.specs.declared.setup.RsSetup.{RsSetup}
use Rattle.resource_server.specs.declared.guarded.Guarded.{Guarded}
use Rattle.resource_server.specs.declared.guarded.Guarded.TheVariants as guarded
use Rattle.resource_server.specs.Introspecting.{question_text, introspection_bytes}
use Rattle.resource_server.specs.Guarding.{SaysOfToken, Guards}
use Rattle.resource_server.specs.Laws.{Presents, AllowedByReply, IsIntrospected}
use Rattle.introspection_cache.specs.declared.kept_reply.KeptReply.{KeptReply}
use Rattle.introspection_cache.specs.Caching.{Cache, Caches, fresh_to, new_cache}

-- a request that was guarded with a cache
pub record CachedStep : Type 0 where
  pub setup : RsSetup
  pub message : Message
  pub moment : ℕ
  pub before : Cache
  pub exchanges : List Exchange
  pub answer : Guarded
  pub after : Cache
  pub caches : Caches setup message moment before exchanges answer after

-- requests that were guarded one after another, from a cache to a cache
abbrev pub Chained : Cache → List CachedStep → Cache → Type 0
Chained first [] last = last ≡ first
Chained first (s ∷ steps) last = (s.before ≡ first) × Chained s.after steps last

-- a kept reply came in this step: at its moment, by the one exchange, which asked its question, and it says that the token is live until its `exp`
pub record CameIn (text : List ℕ) (r : KeptReply) (s : CachedStep) : Type 0 where
  pub moment : r.moment ≡ s.moment
  pub introspected : IsIntrospected s.setup s.moment text r.reply s.exchanges
  pub access : List Right
  pub key : Option (List ℕ)
  pub active : SaysOfToken r.reply (Active access key r.exp)
  pub few : length text + length r.reply ≤ 13500

-- what is kept after requests, from a new cache on, came in one of them
abbrev pub KeptCame : Type 0
KeptCame = (capacity : ℕ) (steps : List CachedStep) (last : Cache) → Chained (new_cache capacity) steps last
    → (text : List ℕ) (r : KeptReply) → Contains last.kept (text, r) → (s : CachedStep) × Contains steps s × CameIn text r s

-- Nothing was asked: the reply came in one of these steps, to the same question, at most 30 seconds before, and the token lasts by it.
pub record IsKept (steps : List CachedStep) (text reply : List ℕ) (now : ℕ) (exchanges : List Exchange) : Type 0 where
  pub silent : exchanges ≡ []
  pub kept : KeptReply
  pub same : kept.reply ≡ reply
  pub step : CachedStep
  pub among : Contains steps step
  pub came : CameIn text kept step
  pub begun : kept.moment ≤ now
  pub recent : now ≤ kept.moment + 30
  pub lasts : now < kept.exp

-- After requests, from a new cache on, a request that is let through has all that it takes by a reply to the question about its token: which came now, or
-- in a step before, at most 30 seconds ago. The signature is verified for this request at this moment in both cases (`AllowedByReply`).
abbrev pub CachedAllowMeans : Type 0
CachedAllowMeans = (capacity : ℕ) (steps : List CachedStep) (before after : Cache) → Chained (new_cache capacity) steps before
    → (setup : RsSetup) (m : Message) (now i : ℕ) (exchanges : List Exchange) → Caches setup m now before exchanges (guarded.Allow i) after
    → (reply : List ℕ) × (by : AllowedByReply setup m now i reply)
    × (IsIntrospected setup now (question_text setup by.route by.token) reply exchanges
    ⊎ IsKept steps (question_text setup by.route by.token) reply now exchanges)

-- The answer to a request is that of `guard` at this moment, had the introspection of its token been asked now and brought a kept reply.
pub record AnswersByKept (steps : List CachedStep) (setup : RsSetup) (m : Message) (now : ℕ) (exchanges : List Exchange) (answer : Guarded) : Type 0 where
  pub place : ℕ
  pub route : Route
  pub token : Scheme × List ℕ
  pub presents : Presents setup m place route token
  pub reply : List ℕ
  pub kept : IsKept steps (question_text setup route token) reply now exchanges
  pub request : List ℕ
  pub request_is : introspection_bytes setup now (question_text setup route token) ≡ Some request
  pub guards : Guards setup m now ((request, Some reply) ∷ []) answer

-- After requests, from a new cache on, each answer is that of `guard`: by what was asked now, or by a kept reply.
abbrev pub CachedIsGuard : Type 0
CachedIsGuard = (capacity : ℕ) (steps : List CachedStep) (before after : Cache) → Chained (new_cache capacity) steps before
    → (setup : RsSetup) (m : Message) (now : ℕ) (exchanges : List Exchange) (answer : Guarded) → Caches setup m now before exchanges answer after
    → Guards setup m now exchanges answer ⊎ AnswersByKept steps setup m now exchanges answer

-- where a fresh reply to its question is kept, nothing is asked
abbrev pub FreshIsSilent : Type 0
FreshIsSilent = (setup : RsSetup) (m : Message) (now i : ℕ) (route : Route) (token : Scheme × List ℕ) (before after : Cache) (exchanges : List Exchange)
    (answer : Guarded) (r : KeptReply) → Presents setup m i route token → fresh_to (question_text setup route token) now before.kept ≡ Some r
    → Caches setup m now before exchanges answer after → exchanges ≡ []

-- there are never more replies kept than the capacity
abbrev pub KeptAreFew : Type 0
KeptAreFew = (capacity : ℕ) (steps : List CachedStep) (last : Cache) → Chained (new_cache capacity) steps last → 1 ≤ capacity → length last.kept ≤ capacity
