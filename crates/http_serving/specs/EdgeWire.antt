-- How HTTP requests stand in the bytes of a connection, and what is written where there is none.
use Rattle.std.specs.Prelude.{ℕ, ◌<◌, List, [], ◌++◌, length, Option, Some, None}
use Rattle.bytes_and_lists.specs.declared.message.Message.{Message}
use Rattle.http_edge.specs.declared.fault.EdgeFault.{EdgeFault}
use Rattle.http_edge.specs.declared.fault.EdgeFault.TheVariants as faults
use Rattle.http_edge.specs.declared.reply.HttpReply.{HttpReply}
use Rattle.http_edge.specs.Replies.{reply_bytes, busy_reply, fault_reply}
use Rattle.http_edge.specs.Streams.{IsMessage, IsRefusedFor, IsOpen}
use Rattle.http_edge.proofs.Outcomes.{message_more}
use Rattle.serving.specs.Connections.{Wire}
use Rattle.serving.specs.declared.ends.NoMessage.{NoMessage}
use Rattle.serving.specs.declared.ends.NoMessage.TheVariants as no

-- the bytes of a reply, where there is one
abbrev pub bytes_of_reply : Option HttpReply → List ℕ
bytes_of_reply None = []
bytes_of_reply (Some r) = reply_bytes r

-- Bytes that begin no request are refused by the reply to their fault, and 503 says that memory ran out while a request was read.
abbrev pub edge_wire : Wire Message EdgeFault
edge_wire = record {
  begins = IsMessage;
  refuses = IsRefusedFor;
  unfinished = λ bytes. IsOpen bytes × (0 < length bytes);
  is_last = λ m. m.last;
  refusal = λ fault. bytes_of_reply (fault_reply fault);
  starved = reply_bytes busy_reply;
}

-- why there is no request
abbrev pub no_message : EdgeFault → NoMessage EdgeFault
no_message faults.BadHead = no.Refused faults.BadHead
no_message faults.TooLarge = no.Refused faults.TooLarge
no_message faults.Coded = no.Refused faults.Coded
no_message faults.Truncated = no.Truncated
no_message faults.ReadFault = no.Failed
no_message faults.OutOfMemory = no.OutOfMemory

-- a request stays one, whatever follows
pub stays : (bytes : List ℕ) (m : Message) (rest more : List ℕ) → IsMessage bytes m rest → IsMessage (bytes ++ more) m (rest ++ more)
stays bytes m rest more is = message_more bytes more m rest is
