-- Connections on which messages come and are answered, one after another.
use Rattle.std.proofs.Common.{suc}
use Rattle.std.specs.Prelude.{◌≡◌, ℕ, ◌<◌, ◌≤◌, Bool, true, false, ◌||◌, ◌==◌, List, [], ◌∷◌, ◌++◌, length}
use Rattle.outside.specs.Outside.{Served, IsAtEnd}
use Rattle.outside.specs.Gears.{GearState, with_uses}
use Rattle.histories.specs.Turns.{Turn, OneMore, Cut, messages_in, moments_in, entries_in, bytes_in}
use Rattle.serving.specs.Backends.{BackendKind}
use Rattle.serving.specs.declared.ends.ConnectionEnd.{ConnectionEnd}
use Rattle.serving.specs.declared.ends.ConnectionEnd.TheVariants.{Closed, Quota, Truncated, Refused, ReadFault, WriteFault, Memory}

-- How messages stand in bytes, and what is written where none can be read. A fault says why the bytes are no message.
pub record Wire (Message Fault : Type 0) : Type 1 where
  -- the bytes begin with this message, and these come after it
  pub begins : List ℕ → Message → List ℕ → Type 0
  -- no message can stand there, whatever follows
  pub refuses : List ℕ → Fault → Type 0
  -- the bytes begin a message and don't end it
  pub unfinished : List ℕ → Type 0
  -- after the response to this message the connection closes
  pub is_last : Message → Bool
  -- what is written to a fault, and where memory runs out while a message is read
  pub refusal : Fault → List ℕ
  pub starved : List ℕ

-- the place of the last message that a connection may bring, counted from 0
abbrev pub last_place : ℕ
last_place = 999

-- how many messages a connection may bring
abbrev pub most_messages : ℕ
most_messages = suc last_place

module _ {Message Fault : Type 0} (wire : Wire Message Fault) where
  -- the bytes begin with these messages, and these come after them
  abbrev pub AreMessages : List ℕ → List Message → List ℕ → Type 0
  AreMessages bytes [] rest = bytes ≡ rest
  AreMessages bytes (m ∷ ms) rest = (after : List ℕ) × wire.begins bytes m after × AreMessages after ms rest

  -- whether the response to the message at a place, counted from 0, is the last one
  abbrev pub is_closing : ℕ → Message → Bool
  is_closing place m = wire.is_last m || place == last_place

module _ {Message Fault E : Type 0} (wire : Wire Message Fault) where
  -- another message may come after each of the turns, the first of which is at this place
  abbrev pub GoesOn : ℕ → List (Turn Message E) → Type 0
  GoesOn place [] = Unit {0}
  GoesOn place (t ∷ ts) = (t.on ≡ true) × (is_closing wire place t.message ≡ false) × GoesOn (suc place) ts

  -- each turn is of a kind that may be at its place
  abbrev pub AreTurns : (Bool → Turn Message E → Type 0) → ℕ → List (Turn Message E) → Type 0
  AreTurns IsTurn place [] = Unit {0}
  AreTurns IsTurn place (t ∷ ts) = IsTurn (is_closing wire place t.message) t × AreTurns IsTurn (suc place) ts

  -- How a session ends by itself, and what is written after the responses of its turns. The rest are the bytes that were read behind the
  -- messages of the turns.
  pub data Ends (turns : List (Turn Message E)) (conn : Served) (rest : List ℕ) : ConnectionEnd Fault → List ℕ → Type 0 where
    at_last : (front : List (Turn Message E)) → (last : Turn Message E) → OneMore (GoesOn 0) turns front last → last.on ≡ true
        → wire.is_last last.message ≡ true → length turns < most_messages → Ends turns conn rest Closed []
    at_end : GoesOn 0 turns → rest ≡ [] → IsAtEnd conn.told → Ends turns conn rest Closed []
    at_quota : (front : List (Turn Message E)) → (last : Turn Message E) → OneMore (GoesOn 0) turns front last → last.on ≡ true
        → length turns ≡ most_messages → Ends turns conn rest Quota []
    cut_off : GoesOn 0 turns → wire.unfinished rest → IsAtEnd conn.told → Ends turns conn rest Truncated []
    at_fault : (fault : Fault) → GoesOn 0 turns → wire.refuses rest fault → Ends turns conn rest (Refused fault) (wire.refusal fault)
    at_want : (front : List (Turn Message E)) → (last : Turn Message E) → OneMore (GoesOn 0) turns front last → last.on ≡ false
        → Ends turns conn rest Memory []
    reading_at_want : GoesOn 0 turns → Ends turns conn rest Memory wire.starved
    at_read : GoesOn 0 turns → 0 < conn.faults → Ends turns conn rest ReadFault []

  -- How it ended and what was written: all, or all but an end of the last piece, at which a write failed.
  pub data Finishes (turns : List (Turn Message E)) (conn : Served) (rest : List ℕ) : ConnectionEnd Fault → Type 0 where
    whole : (ended : ConnectionEnd Fault) → (closing : List ℕ) → Ends turns conn rest ended closing
        → conn.told.written ≡ bytes_in turns ++ closing → Finishes turns conn rest ended
    cut_response : (front : List (Turn Message E)) → (last : Turn Message E) → OneMore (GoesOn 0) turns front last
        → Cut conn.told.written (bytes_in front) last.bytes → 0 < conn.faults → Finishes turns conn rest WriteFault
    cut_closing : (ended : ConnectionEnd Fault) → (closing : List ℕ) → Ends turns conn rest ended closing
        → Cut conn.told.written (bytes_in turns) closing → 0 < conn.faults → Finishes turns conn rest WriteFault

  -- The connection was served by these turns, and so it ended.
  pub record Session (IsTurn : Bool → Turn Message E → Type 0) (conn : Served) (turns : List (Turn Message E)) (ended : ConnectionEnd Fault) : Type 0 where
    pub each : AreTurns IsTurn 0 turns
    pub few : length turns ≤ most_messages
    pub rest : List ℕ
    pub came : AreMessages wire conn.told.taken (messages_in turns) rest
    pub finishes : Finishes turns conn rest ended

-- A connection that nothing was done with before was served so, by turns at a backend that had seen this past. The gear gave their moments and
-- their words.
pub record ServesTurns {Message Fault B Past E : Type 0} (kind : BackendKind B Past E) (wire : Wire Message Fault) (IsTurn : Bool → Turn Message E → Type 0)
    (before : B) (past : Past) (after : B) (gear gear_now : GearState) (conn : Served) (ended : ConnectionEnd Fault) : Type 0 where
  pub turns : List (Turn Message E)
  pub session : Session wire IsTurn conn turns ended
  pub few : length (entries_in turns) ≤ 2000
  pub past_now : Past
  pub leads : kind.leads before past (entries_in turns) after past_now
  pub used : gear_now ≡ with_uses (moments_in turns) (kind.draws (entries_in turns)) gear
