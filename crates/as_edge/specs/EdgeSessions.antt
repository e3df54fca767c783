-- What is done with a connection to the authorization server.
use Rattle.std.specs.Prelude.{◌≡◌, ℕ, List, ◌∷◌, ◌++◌, refl}
use Rattle.outside.specs.Outside.{Served}
use Rattle.bytes_and_lists.specs.declared.message.Message.{Message}
use Rattle.histories.specs.Turns.{Turn, IsTurn}
use Rattle.http_edge.specs.declared.fault.EdgeFault.{EdgeFault}
use Rattle.gnap_model.specs.declared.objects.Setup.{Setup}
use Rattle.gnap_objects.specs.CallsFit.{ReplyFits}
use Rattle.grant_machine.specs.Gnap.{GnapEntry, gnap}
use Rattle.grant_machine.proofs.FitsThrough.{replies_fit}
use Rattle.serving.specs.Connections.{Session}
use Rattle.serving.specs.Wholes.{IsServedWhole}
use Rattle.serving.specs.MessageSteps.{SaysAllReplies}
use Rattle.serving.specs.declared.ends.ConnectionEnd.{ConnectionEnd}
use Rattle.as_edge.specs.EdgeFace.{edge_face}
use Rattle.http_serving.specs.EdgeWire.{edge_wire}

-- The connection was served by these turns: its requests in order, each answered at once or by the reply of its entry, and what was said at the end.
abbrev pub IsEdgeSession : Setup → Served → List (Turn Message GnapEntry) → Type 0
IsEdgeSession setup conn turns = (ended : ConnectionEnd EdgeFault) × Session edge_wire (IsTurn gnap edge_face setup) conn turns ended

-- Its requests are those that the whole input begins with, of which this was left, and everything that was to be said was written.
abbrev pub IsEdgeServedWhole : Setup → Served → List ℕ → List (Turn Message GnapEntry) → Type 0
IsEdgeServedWhole setup = IsServedWhole edge_wire (IsTurn gnap edge_face setup)

abbrev pub UnfailedAreWhole : Type 0
UnfailedAreWhole = (setup : Setup) (conn : Served) (left : List ℕ) (turns : List (Turn Message GnapEntry)) → IsEdgeSession setup conn turns
    → conn.faults ≡ 0 → IsEdgeServedWhole setup conn left turns

-- each reply of a legal history can be printed
pub says_all : SaysAllReplies gnap ReplyFits
says_all rules before e after legal = replies_fit rules (before ++ e ∷ after) before e after legal refl
