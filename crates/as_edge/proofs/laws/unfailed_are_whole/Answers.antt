use Rattle.histories.specs.Turns.{IsTurn}
use Rattle.serving.proofs.WholeLemmas.{unfailed_whole}
use Rattle.grant_machine.specs.Gnap.{gnap}
use Rattle.as_edge.specs.EdgeFace.{edge_face}
use Rattle.http_serving.specs.EdgeWire.{edge_wire, stays}
use Rattle.as_edge.proofs.laws.unfailed_are_whole.Goals as goal

pub returns : goal.returns
returns c = λ setup conn left turns is none. unfailed_whole edge_wire stays (IsTurn gnap edge_face setup) conn left turns none is.0 is.1
