-- What the next message of a stream is read from.
use Rattle.std.specs.Prelude.{◌≡◌, ℕ, ◌<◌, ◌≤◌, List, [], ◌++◌, length, Option, Some, None, Result, Ok, Err}
use Rattle.outside.specs.Outside.{Told, Takes, IsAtEnd, Rose}
use Rattle.bytes_and_lists.specs.declared.message.Message.{Message}
use Rattle.http_edge.specs.declared.fault.EdgeFault.{EdgeFault}
use Rattle.http_edge.specs.declared.fault.EdgeFault.TheVariants as faults
use Rattle.http_edge.specs.Limits.{message_limit}
use Rattle.http_edge.specs.Streams.{IsMessage, IsRefusedFor, IsOpen}

-- Why the bytes b give no message. Of a failed read and of want of memory nothing is said here.
abbrev pub HasFault : List ℕ → Told → EdgeFault → Type 0
HasFault b after faults.BadHead = IsRefusedFor b faults.BadHead
HasFault b after faults.TooLarge = IsRefusedFor b faults.TooLarge
HasFault b after faults.Coded = IsRefusedFor b faults.Coded
HasFault b after faults.Truncated = IsOpen b × (0 < length b) × IsAtEnd after
HasFault b after faults.ReadFault = Unit {0}
HasFault b after faults.OutOfMemory = Unit {0}

-- What an answer says of the bytes b, of which rest are still held. A message is taken out of them, and a fault drops none.
abbrev pub GivesMessage : List ℕ → List ℕ → Told → Result (Option Message) EdgeFault → Type 0
GivesMessage b rest after (Ok (Some m)) = IsMessage b m rest
GivesMessage b rest after (Ok None) = (b ≡ []) × (rest ≡ []) × IsAtEnd after
GivesMessage b rest after (Err fault) = (rest ≡ b) × HasFault b after fault

-- The answer is that of the bytes that were held, and those that came behind them. Together they are no more than one message may have.
pub record IsNextMessage (held held_now : List ℕ) (before after : Told) (answer : Result (Option Message) EdgeFault) : Type 0 where
  pub came : List ℕ
  pub takes : Takes came before after
  pub few : length (held ++ came) ≤ message_limit
  pub answers : GivesMessage (held ++ came) held_now after answer

-- the count of faults rose where a read failed, and stays elsewhere
abbrev pub CountsReadFault : Result (Option Message) EdgeFault → ℕ → ℕ → Type 0
CountsReadFault (Err faults.ReadFault) before after = Rose before after
CountsReadFault _ before after = after ≡ before
