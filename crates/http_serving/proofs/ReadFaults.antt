-- Why there is no request, in the words of a server.
use Rattle.std.proofs.Common.{◌≡◌, ℕ, List, ◌++◌, sym, subst}
use Rattle.std.specs.Prelude.{Err}
use Rattle.outside.specs.Outside.{Told}
use Rattle.http_edge.specs.declared.fault.EdgeFault.{EdgeFault}
use Rattle.http_edge.specs.declared.fault.EdgeFault.TheVariants as faults
use Rattle.http_edge.specs.Reads.{HasFault, IsNextMessage}
use Rattle.serving.specs.Reading.{FindsMessage, ReadsMessage}
use Rattle.serving.specs.declared.ends.NoMessage.{NoMessage}
use Rattle.http_serving.specs.EdgeWire.{edge_wire, no_message}

pub finds_fault : (bytes rest : List ℕ) (told : Told) (fault : EdgeFault) → HasFault bytes told fault
    → FindsMessage edge_wire bytes rest told (Err (no_message fault))
finds_fault bytes rest told faults.BadHead is = is
finds_fault bytes rest told faults.TooLarge is = is
finds_fault bytes rest told faults.Coded is = is
finds_fault bytes rest told faults.Truncated is = ((is.0, is.1), is.2)
finds_fault bytes rest told faults.ReadFault is = tt
finds_fault bytes rest told faults.OutOfMemory is = tt

pub reads_fault : (held held_now : List ℕ) (before after : Told) (fault : EdgeFault) → IsNextMessage held held_now before after (Err fault)
    → (why : NoMessage EdgeFault) → why ≡ no_message fault → ReadsMessage edge_wire held held_now before after (Err why)
reads_fault held held_now before after fault next why is = record {
  came = next.came;
  takes = next.takes;
  finds = subst (λ (w : NoMessage EdgeFault). FindsMessage edge_wire (held ++ next.came) held_now after (Err w)) (sym is)
      (finds_fault (held ++ next.came) held_now after fault next.answers.1);
}
