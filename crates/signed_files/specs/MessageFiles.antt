-- What the text of a file is that should be one message, and what is answered to it.
use Rattle.std.specs.Prelude.{◌≡◌, ℕ, ◌<◌, Bool, true, false, List, [], ◌∷◌, length, Result, Ok, Err, codes}
use Rattle.std.specs.Borrow.{Bor}
use Rattle.outside.specs.Outside.{Told, Takes, IsAtEnd, Rose}
use Rattle.bytes_and_lists.specs.declared.message.Message.{Message}
use Rattle.http_edge.specs.declared.fault.EdgeFault.{EdgeFault}
use Rattle.http_edge.specs.declared.fault.EdgeFault.TheVariants as edge
use Rattle.http_edge.specs.Streams.{IsMessage, IsRefusedFor, IsOpen}
use Rattle.signed_files.specs.declared.fault.FileFault.{FileFault}
use Rattle.signed_files.specs.declared.fault.FileFault.TheVariants.{Refused, ReadFault, OutOfMemory}

-- The text is one message, or why it is none, by the fault's name. A text that ends too early is truncated, as the empty one is; behind a
-- message nothing may follow.
pub data IsMessageFile (text : List ℕ) : Result Message (List ℕ) → Type 0 where
  message : (m : Message) → IsMessage text m [] → IsMessageFile text (Ok m)
  bad_head : IsRefusedFor text edge.BadHead → IsMessageFile text (Err (codes "BadHead"))
  too_large : IsRefusedFor text edge.TooLarge → IsMessageFile text (Err (codes "TooLarge"))
  coded : IsRefusedFor text edge.Coded → IsMessageFile text (Err (codes "Coded"))
  unfinished : IsOpen text → IsMessageFile text (Err (codes "Truncated"))
  empty : text ≡ [] → IsMessageFile text (Err (codes "Truncated"))
  followed : (m : Message) (byte : ℕ) (more : List ℕ) → IsMessage text m (byte ∷ more) → IsMessageFile text (Err (codes "BadHead"))

-- What is answered to the text of a file: what is answered to its message, or why it is none.
pub data AnswersFile (answers : Message → Result (List ℕ) (List ℕ) → Type 0) (text : List ℕ) : Result (List ℕ) (List ℕ) → Type 0 where
  to_message : (m : Message) (answer : Result (List ℕ) (List ℕ)) → IsMessageFile text (Ok m) → answers m answer → AnswersFile answers text answer
  no_message : (name : List ℕ) → IsMessageFile text (Err name) → AnswersFile answers text (Err name)

-- A result is what the relation has, unless a read failed or memory ran out.
abbrev pub Gives : {X : Type 0} → (Result X (List ℕ) → Type 0) → Result X FileFault → Type 0
Gives relation (Ok x) = relation (Ok x)
Gives relation (Err (Refused name)) = relation (Err name.now)
Gives relation (Err ReadFault) = Unit {0}
Gives relation (Err OutOfMemory) = Unit {0}

abbrev pub GivesMessage : List ℕ → Result Message FileFault → Type 0
GivesMessage text result = Gives (IsMessageFile text) result

-- the count of faults rose where a read failed, and stays elsewhere
abbrev pub CountsReadFault : {X : Type 0} → Result X FileFault → ℕ → ℕ → Type 0
CountsReadFault (Ok x) before after = after ≡ before
CountsReadFault (Err (Refused name)) before after = after ≡ before
CountsReadFault (Err ReadFault) before after = Rose before after
CountsReadFault (Err OutOfMemory) before after = after ≡ before

-- ---- on the way to it

-- the name of a fault of the edge, or what it is else
abbrev pub HasEdgeFault : EdgeFault → FileFault → Type 0
HasEdgeFault edge.BadHead fault = (name : Bor (List ℕ)) × (fault ≡ Refused name) × (name.now ≡ codes "BadHead")
HasEdgeFault edge.TooLarge fault = (name : Bor (List ℕ)) × (fault ≡ Refused name) × (name.now ≡ codes "TooLarge")
HasEdgeFault edge.Coded fault = (name : Bor (List ℕ)) × (fault ≡ Refused name) × (name.now ≡ codes "Coded")
HasEdgeFault edge.Truncated fault = (name : Bor (List ℕ)) × (fault ≡ Refused name) × (name.now ≡ codes "Truncated")
HasEdgeFault edge.ReadFault fault = fault ≡ ReadFault
HasEdgeFault edge.OutOfMemory fault = fault ≡ OutOfMemory

-- whether a source has more: some byte came, or none is left
abbrev pub HasMore : {E : Type 0} → Told → Told → Result Bool E → Type 0
HasMore before after (Ok true) = (byte : ℕ) × (more : List ℕ) × Takes (byte ∷ more) before after
HasMore before after (Ok false) = Takes [] before after × IsAtEnd after
HasMore before after (Err e) = after ≡ before
