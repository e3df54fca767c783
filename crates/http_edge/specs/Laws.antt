-- What holds of all streams and of all replies.
use Rattle.std.specs.Prelude.{◌≡◌, ◌<◌, ◌≤◌, ◌^◌, ℕ, List, [], ◌∷◌, ◌++◌, length}
use Rattle.bytes_and_lists.specs.declared.message.Message.{Message}
use Rattle.http_edge.specs.declared.fault.EdgeFault.{EdgeFault}
use Rattle.http_edge.specs.declared.reply.HttpReply.{HttpReply}
use Rattle.http_edge.specs.Limits.{head_limit}
use Rattle.http_edge.specs.Streams.{IsMessage, IsRefusedFor, IsOpen, HasNoMessage, Messages}
use Rattle.http_edge.specs.Replies.{body_bytes, head_bytes, reply_bytes, MayWrite}
use Rattle.http_edge.specs.ReadReplies.{IsHttpReply}

-- a stream begins with one message at most, whatever follows
abbrev pub IsOneMessage : Type 0
IsOneMessage = (b more : List ℕ) (m n : Message) (r q : List ℕ) → IsMessage b m r → IsMessage (b ++ more) n q → (m ≡ n) × (r ++ more ≡ q)

-- a message stays one, whatever follows
abbrev pub MessageStays : Type 0
MessageStays = (b more : List ℕ) (m : Message) (r : List ℕ) → IsMessage b m r → IsMessage (b ++ more) m (r ++ more)

-- a refusal stays the same one, whatever follows
abbrev pub RefusalStays : Type 0
RefusalStays = (b more : List ℕ) (fault : EdgeFault) → IsRefusedFor b fault
    → IsRefusedFor (b ++ more) fault × ((other : EdgeFault) → IsRefusedFor (b ++ more) other → fault ≡ other)

-- a message, a refusal and less than a whole message exclude each other
pub record OutcomesDiffer : Type 0 where
  pub refused : (b : List ℕ) (fault : EdgeFault) → IsRefusedFor b fault → HasNoMessage b
  pub waiting : (b : List ℕ) → IsOpen b → HasNoMessage b
  pub neither : (b : List ℕ) (fault : EdgeFault) → IsRefusedFor b fault → ¬ (IsOpen b)

-- the messages of a stream: the next one joins them, they stay whatever follows, and so many are the same ones always
pub record MessagesStay : Type 0 where
  pub next : (b : List ℕ) (ms : List Message) (rest : List ℕ) (m : Message) (after : List ℕ) → Messages b ms rest → IsMessage rest m after
      → Messages b (ms ++ m ∷ []) after
  pub stay : (b : List ℕ) (ms : List Message) (rest more : List ℕ) → Messages b ms rest → Messages (b ++ more) ms (rest ++ more)
  pub same : (b more : List ℕ) (ms ns : List Message) (r q : List ℕ) → Messages b ms r → Messages (b ++ more) ns q → length ms ≡ length ns
      → (ms ≡ ns) × (r ++ more ≡ q)

-- bytes are at most one reply
abbrev pub IsOneReply : Type 0
IsOneReply = (bytes : List ℕ) (status other : ℕ) (body text : List ℕ)
    → IsHttpReply bytes status body → IsHttpReply bytes other text → (status ≡ other) × (body ≡ text)

-- what is written is read, with its status and its body, where its head is no longer than one that is read
abbrev pub WrittenIsRead : Type 0
WrittenIsRead = (r : HttpReply) → MayWrite r → length (body_bytes r.body) < 2 ^ 63 → length (head_bytes r) ≤ head_limit
    → IsHttpReply (reply_bytes r) r.status (body_bytes r.body)
