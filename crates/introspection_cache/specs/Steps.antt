-- The steps on the way to an answer.
use Rattle.std.specs.Prelude.{◌≡◌, ◌≢◌, ℕ, List, Option, Some, None, Result, Ok, Err}
use Rattle.outside.specs.Links.{LinkState}
use Rattle.bytes_and_lists.specs.declared.message.Message.{Message}
use Rattle.outside.specs.declared.link.LinkFault.{LinkFault}
use Rattle.gnap_model.specs.declared.rights.Right.{Right}
use Rattle.reply_readers.specs.declared.judgement.Judgement.{Judgement}
use Rattle.reply_readers.specs.declared.judgement.Judgement.TheVariants.{Active, Inactive}
use Rattle.resource_server.specs.declared.setup.RsSetup.{RsSetup}
use Rattle.resource_server.specs.declared.guarded.Guarded.{Guarded}
use Rattle.resource_server.specs.declared.guarded.Guarded.TheVariants as guarded
use Rattle.resource_server.specs.Guarding.{SaysOfToken, Judged}
use Rattle.resource_server.specs.Introspecting.{IsAsked}
use Rattle.introspection_cache.specs.declared.kept_reply.KeptReply.{KeptReply}
use Rattle.introspection_cache.specs.Caching.{Kept, with_reply}

-- until when the token is live
abbrev pub exp_of : Judgement → Option ℕ
exp_of (Active access key exp) = Some exp
exp_of Inactive = None

-- The answer that a request gets, where it was to get this one, and what is kept then. An answer that lets it through may become want of memory.
pub data KeepsReply (capacity : ℕ) (text : List ℕ) (r : KeptReply) (others : Kept) : Guarded → Guarded → Kept → Type 0 where
  put_first : (i : ℕ) → KeepsReply capacity text r others (guarded.Allow i) (guarded.Allow i) (with_reply capacity text r others)
  no_room_for_it : (i : ℕ) → KeepsReply capacity text r others (guarded.Allow i) guarded.Memory others
  not_let_through : (answer : Guarded) → ((i : ℕ) → answer ≢ guarded.Allow i) → KeepsReply capacity text r others answer answer others

-- What is kept after a reply was judged: only a request that is let through keeps it.
pub data KeepsJudged (capacity : ℕ) (text : List ℕ) (now : ℕ) (reply : List ℕ) (others : Kept) : Guarded → Kept → Type 0 where
  through_by_it : (i : ℕ) → (r : KeptReply) → r.reply ≡ reply → r.moment ≡ now → (access : List Right) → (key : Option (List ℕ))
      → SaysOfToken reply (Active access key r.exp)
      → KeepsJudged capacity text now reply others (guarded.Allow i) (with_reply capacity text r others)
  not_through : (answer : Guarded) → ((i : ℕ) → answer ≢ guarded.Allow i) → KeepsJudged capacity text now reply others answer others

-- What is kept after a question was asked, by the link's answer.
abbrev pub KeepsAnswered : ℕ → List ℕ → ℕ → Result (List ℕ) LinkFault → Kept → Guarded → Kept → Type 0
KeepsAnswered capacity text now (Ok reply) others answer kept = KeepsJudged capacity text now reply others answer kept
KeepsAnswered capacity text now (Err fault) others answer kept = ((i : ℕ) → answer ≢ guarded.Allow i) × (kept ≡ others)

-- A question was asked anew, for the route at a place, which needs these rights; or memory ran out before.
pub data AnswersAnew (setup : RsSetup) (m : Message) (now i : ℕ) (wanted : List Right) (text : List ℕ) (capacity : ℕ) (before after : LinkState) (others : Kept)
    : Guarded → Kept → Type 0 where
  asked_anew : (reply : Result (List ℕ) LinkFault) → IsAsked setup now text before after reply → (answer : Guarded) → Judged setup m now i wanted reply answer
      → (kept : Kept) → KeepsAnswered capacity text now reply others answer kept
      → AnswersAnew setup m now i wanted text capacity before after others answer kept
  starved_before : after ≡ before → AnswersAnew setup m now i wanted text capacity before after others guarded.Memory others
