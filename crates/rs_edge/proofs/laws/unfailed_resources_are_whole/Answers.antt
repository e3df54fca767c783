use Rattle.serving.proofs.WholeLemmas.{unfailed_whole}
use Rattle.http_serving.specs.EdgeWire.{edge_wire, stays}
use Rattle.rs_edge.specs.RsTurns.{IsRsTurn}
use Rattle.rs_edge.proofs.laws.unfailed_resources_are_whole.Goals as goal

pub returns : goal.returns
returns g c = λ setup conn left turns is none. unfailed_whole edge_wire stays (IsRsTurn g.K.RequestGuard.guards setup) conn left turns none is.0 is.1
