-- What is done with a connection to the server of resource sets.
use Rattle.std.specs.Prelude.{◌≡◌, ℕ, List, ◌∷◌, ◌++◌, refl}
use Rattle.outside.specs.Outside.{Served}
use Rattle.bytes_and_lists.specs.declared.message.Message.{Message}
use Rattle.histories.specs.Turns.{Turn, IsTurn}
use Rattle.http_edge.specs.declared.fault.EdgeFault.{EdgeFault}
use Rattle.gnap_model.specs.declared.objects.Setup.{Setup}
use Rattle.serving.specs.Connections.{Session}
use Rattle.serving.specs.Wholes.{IsServedWhole}
use Rattle.serving.specs.MessageSteps.{SaysAllReplies}
use Rattle.serving.specs.declared.ends.ConnectionEnd.{ConnectionEnd}
use Rattle.http_serving.specs.EdgeWire.{edge_wire}
use Rattle.resource_sets.specs.Sets.{SetEvent, sets}
use Rattle.resource_sets.specs.SetsFit.{SetReplyFits}
use Rattle.resource_sets.proofs.RepliesFit.{replies-fit}
use Rattle.rs_facing.specs.SetFace.{set_face}

-- The connection was served by these turns: its requests in order, each answered at once or by the reply of its entry, and what was said at the end.
abbrev pub IsSetSession : Setup → Served → List (Turn Message SetEvent) → Type 0
IsSetSession setup conn turns = (ended : ConnectionEnd EdgeFault) × Session edge_wire (IsTurn sets set_face setup) conn turns ended

-- Its requests are those that the whole input begins with, of which this was left, and everything that was to be said was written.
abbrev pub IsSetServedWhole : Setup → Served → List ℕ → List (Turn Message SetEvent) → Type 0
IsSetServedWhole setup = IsServedWhole edge_wire (IsTurn sets set_face setup)

abbrev pub UnfailedSetsAreWhole : Type 0
UnfailedSetsAreWhole = (setup : Setup) (conn : Served) (left : List ℕ) (turns : List (Turn Message SetEvent)) → IsSetSession setup conn turns
    → conn.faults ≡ 0 → IsSetServedWhole setup conn left turns

-- each reply of a legal history can be printed
pub says_all : SaysAllReplies sets SetReplyFits
says_all rules before e after legal = replies-fit rules (before ++ e ∷ after) before e after legal refl
