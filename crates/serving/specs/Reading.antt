-- What reading the next message does, and what is done where there is none.
use Rattle.std.specs.Prelude.{◌≡◌, ℕ, List, [], ◌++◌, Option, Some, None, Result, Ok, Err}
use Rattle.bytes_and_lists.specs.Prefixes.{IsPrefix}
use Rattle.outside.specs.Outside.{Told, Takes, Writes, IsAtEnd, Rose}
use Rattle.serving.specs.declared.ends.ConnectionEnd.{ConnectionEnd}
use Rattle.serving.specs.declared.ends.ConnectionEnd.TheVariants as closed
use Rattle.serving.specs.declared.ends.NoMessage.{NoMessage}
use Rattle.serving.specs.declared.ends.NoMessage.TheVariants as no
use Rattle.serving.specs.Connections.{Wire}

module _ {Message Fault : Type 0} (wire : Wire Message Fault) where
  -- what an answer says of the bytes that were held or came, of those that are held then, and of the device
  abbrev pub FindsMessage : List ℕ → List ℕ → Told → Result (Option Message) (NoMessage Fault) → Type 0
  FindsMessage bytes rest told (Ok (Some m)) = wire.begins bytes m rest
  FindsMessage bytes rest told (Ok None) = (bytes ≡ []) × IsAtEnd told
  FindsMessage bytes rest told (Err no.Truncated) = wire.unfinished bytes × IsAtEnd told
  FindsMessage bytes rest told (Err (no.Refused fault)) = wire.refuses bytes fault
  FindsMessage bytes rest told (Err no.Failed) = Unit {0}
  FindsMessage bytes rest told (Err no.OutOfMemory) = Unit {0}

  -- the next message was read, or there is none
  pub record ReadsMessage (held held_now : List ℕ) (before after : Told) (result : Result (Option Message) (NoMessage Fault)) : Type 0 where
    pub came : List ℕ
    pub takes : Takes came before after
    pub finds : FindsMessage (held ++ came) held_now after result

  -- What is said where there is no message was written, or a beginning of it.
  pub data Stops (before after : Told) (faults faults_now : ℕ) : NoMessage Fault → ConnectionEnd Fault → Type 0 where
    truncated : after ≡ before → faults_now ≡ faults → Stops before after faults faults_now no.Truncated closed.Truncated
    failed : after ≡ before → faults_now ≡ faults → Stops before after faults faults_now no.Failed closed.ReadFault
    refused : (fault : Fault) → Writes (wire.refusal fault) before after → faults_now ≡ faults
        → Stops before after faults faults_now (no.Refused fault) (closed.Refused fault)
    refused_cut : (fault : Fault) → (part : List ℕ) → IsPrefix part (wire.refusal fault) → Writes part before after → Rose faults faults_now
        → Stops before after faults faults_now (no.Refused fault) closed.WriteFault
    starved : Writes wire.starved before after → faults_now ≡ faults → Stops before after faults faults_now no.OutOfMemory closed.Memory
    starved_cut : (part : List ℕ) → IsPrefix part wire.starved → Writes part before after → Rose faults faults_now
        → Stops before after faults faults_now no.OutOfMemory closed.WriteFault

-- the count of faults rose where a read failed, and stays elsewhere
abbrev pub HasReadCause : {Message Fault : Type 0} → ℕ → ℕ → Result (Option Message) (NoMessage Fault) → Type 0
HasReadCause before after (Ok r) = after ≡ before
HasReadCause before after (Err no.Truncated) = after ≡ before
HasReadCause before after (Err (no.Refused fault)) = after ≡ before
HasReadCause before after (Err no.Failed) = Rose before after
HasReadCause before after (Err no.OutOfMemory) = after ≡ before
