-- Replies to introspections that are kept, and what a request comes to by them.
use Rattle.std.specs.Prelude.{◌≡◌, ◌≢◌, ℕ, ◌+◌, ◌-◌, ◌&&◌, Bool, List, [], ◌∷◌, length, take, Option, Some, None, Ok, Err, nat_le, nat_lt}
use Rattle.std.specs.Prelude.{if◌then◌else◌}
use Rattle.std.specs.Map.{lookup, remove_entry}
use Rattle.std.specs.Str.{bytes_eq}
use Rattle.lru.specs.LruCache.{promoted}
use Rattle.outside.specs.Links.{Exchange}
use Rattle.bytes_and_lists.specs.declared.message.Message.{Message}
use Rattle.gnap_model.specs.declared.rights.Right.{Right}
use Rattle.reply_readers.specs.declared.judgement.Judgement.TheVariants.{Active}
use Rattle.signed_requests.specs.declared.unsigned.Scheme.{Scheme}
use Rattle.resource_server.specs.declared.setup.Route.{Route}
use Rattle.resource_server.specs.declared.setup.RsSetup.{RsSetup}
use Rattle.resource_server.specs.declared.guarded.Guarded.{Guarded}
use Rattle.resource_server.specs.declared.guarded.Guarded.TheVariants as guarded
use Rattle.resource_server.specs.Routing.{question_of}
use Rattle.resource_server.specs.Introspecting.{question_text}
use Rattle.resource_server.specs.Guarding.{SaysOfToken, Judged, Guards}
use Rattle.resource_server.specs.Laws.{Presents}
use Rattle.introspection_cache.specs.declared.kept_reply.KeptReply.{KeptReply}

-- the replies that are kept, each under its question, the last used first
abbrev pub Kept : Type 0
Kept = List (List ℕ × KeptReply)

-- a cache: how many replies it may keep, and those that it keeps
pub record Cache : Type 0 where
  pub capacity : ℕ
  pub kept : Kept

-- it came at most 30 seconds before now, and its token still lasts
abbrev pub is_fresh : ℕ → KeptReply → Bool
is_fresh now r = nat_le r.moment now && (nat_le now (r.moment + 30) && nat_lt now r.exp)

abbrev pub if_fresh : ℕ → Option KeptReply → Option KeptReply
if_fresh now None = None
if_fresh now (Some r) = if is_fresh now r then Some r else None

-- the fresh reply to a question
abbrev pub fresh_to : List ℕ → ℕ → Kept → Option KeptReply
fresh_to text now kept = if_fresh now (lookup (bytes_eq text) kept)

-- the replies to other questions
abbrev pub to_others : List ℕ → Kept → Kept
to_others text kept = remove_entry (bytes_eq text) kept

-- the question and the reply have at most 13,500 bytes
abbrev pub may_keep : List ℕ → KeptReply → Bool
may_keep text r = nat_le (length text + length r.reply) 13500

-- with a reply that is kept anew: it comes first, and the last goes out where there are as many as there may be
abbrev pub with_reply : ℕ → List ℕ → KeptReply → Kept → Kept
with_reply capacity text r kept = if may_keep text r then (text, r) ∷ take (capacity - 1) kept else kept

-- What is kept after a question that had no fresh reply was answered, where these replies to others were.
pub data Keeps (capacity : ℕ) (text : List ℕ) (now : ℕ) (others : Kept) : List Exchange → Guarded → Kept → Type 0 where
  -- the request was let through: the reply, which says until when the token is live
  allowed : (i : ℕ) → (request : List ℕ) → (r : KeptReply) → r.moment ≡ now
      → (access : List Right) → (key : Option (List ℕ)) → SaysOfToken r.reply (Active access key r.exp)
      → Keeps capacity text now others ((request, Some r.reply) ∷ []) (guarded.Allow i) (with_reply capacity text r others)
  -- it wasn't
  not_allowed : (exchanges : List Exchange) → (answer : Guarded) → ((i : ℕ) → answer ≢ guarded.Allow i)
      → Keeps capacity text now others exchanges answer others

-- What a request comes to, by what was kept, by the exchanges that were made for it, and with what is kept then.
pub data Caches (setup : RsSetup) (m : Message) (now : ℕ) (before : Cache) : List Exchange → Guarded → Cache → Type 0 where
  -- it was refused before there was a question
  at_once : (answer : Guarded) → question_of setup.routes m ≡ Err answer → Caches setup m now before [] answer before
  -- memory ran out before there was a question
  starved : Caches setup m now before [] guarded.Memory before
  -- a fresh reply was kept: it was judged for this request at this moment, and comes first
  again : (i : ℕ) → (route : Route) → (token : Scheme × List ℕ) → Presents setup m i route token
      → (r : KeptReply) → fresh_to (question_text setup route token) now before.kept ≡ Some r
      → (answer : Guarded) → Judged setup m now i (route.right ∷ []) (Ok r.reply) answer
      → Caches setup m now before [] answer (record before { kept = promoted (bytes_eq (question_text setup route token)) before.kept })
  -- none was: another reply to the question went out, and the answer is that of `guard`
  anew : (i : ℕ) → (route : Route) → (token : Scheme × List ℕ) → Presents setup m i route token
      → fresh_to (question_text setup route token) now before.kept ≡ None
      → (exchanges : List Exchange) → (answer : Guarded) → Guards setup m now exchanges answer
      → (kept : Kept)
      → Keeps before.capacity (question_text setup route token) now (to_others (question_text setup route token) before.kept) exchanges answer kept
      → Caches setup m now before exchanges answer (record before { kept = kept })

-- a new cache keeps nothing
abbrev pub new_cache : ℕ → Cache
new_cache capacity = record { capacity = capacity; kept = [] }
