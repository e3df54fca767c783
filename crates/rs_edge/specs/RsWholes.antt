-- Connections to a resource server on which nothing failed.
use Rattle.std.specs.Prelude.{◌≡◌, ℕ, List}
use Rattle.outside.specs.Outside.{Served}
use Rattle.serving.specs.Wholes.{IsServedWhole}
use Rattle.http_serving.specs.EdgeWire.{edge_wire}
use Rattle.resource_server.specs.declared.setup.RsSetup.{RsSetup}
use Rattle.rs_edge.specs.GuardedSteps.{GuardsKeeping}
use Rattle.rs_edge.specs.RsTurns.{RsTurn, IsRsTurn}
use Rattle.rs_edge.specs.RsSessions.{IsRsSession}

-- The requests are those that the whole input begins with, of which this was left, and everything that was to be said was written.
abbrev pub UnfailedResourcesAreWhole : {K : Type 0} → GuardsKeeping K → Type 0
UnfailedResourcesAreWhole {K} guards = (setup : RsSetup) (conn : Served) (left : List ℕ) (turns : List (RsTurn K))
    → IsRsSession guards setup conn turns → conn.faults ≡ 0 → IsServedWhole edge_wire (IsRsTurn guards setup) conn left turns
