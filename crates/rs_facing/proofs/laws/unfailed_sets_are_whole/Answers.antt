use Rattle.histories.specs.Turns.{IsTurn}
use Rattle.serving.proofs.WholeLemmas.{unfailed_whole}
use Rattle.http_serving.specs.EdgeWire.{edge_wire, stays}
use Rattle.resource_sets.specs.Sets.{sets}
use Rattle.rs_facing.specs.SetFace.{set_face}
use Rattle.rs_facing.proofs.laws.unfailed_sets_are_whole.Goals as goal

pub returns : goal.returns
returns c = λ setup conn left turns is none. unfailed_whole edge_wire stays (IsTurn sets set_face setup) conn left turns none is.0 is.1
