-- What is done with connections to a resource server.
use Rattle.std.specs.Prelude.{◌≡◌, List, [], ◌∷◌}
use Rattle.outside.specs.Gears.{Log, GearState, with_uses}
use Rattle.outside.specs.Links.{Exchange, LinkState}
use Rattle.outside.specs.Outside.{Served}
use Rattle.serving.specs.Logs.{joined}
use Rattle.histories.specs.Turns.{moments_in, entries_in}
use Rattle.http_edge.specs.declared.fault.EdgeFault.{EdgeFault}
use Rattle.serving.specs.Connections.{Session}
use Rattle.serving.specs.declared.ends.ConnectionEnd.{ConnectionEnd}
use Rattle.http_serving.specs.EdgeWire.{edge_wire}
use Rattle.resource_server.specs.declared.setup.RsSetup.{RsSetup}
use Rattle.resource_server.specs.Guarding.{AddsExchanges}
use Rattle.rs_edge.specs.GuardedSteps.{GuardsKeeping, Chained, exchanges_in}
use Rattle.rs_edge.specs.RsTurns.{RsTurn, IsRsTurn}

module _ {K : Type 0} (guards : GuardsKeeping K) (setup : RsSetup) where
  -- A connection was served: its requests in order, each by a turn. The gear gave the moments of these turns, the link made their exchanges, and
  -- no others, and each turn began with what the one before it kept.
  pub record ServesResources (link link_now : LinkState) (kept kept_now : K) (gear gear_now : GearState) (conn : Served)
      (ended : ConnectionEnd EdgeFault) : Type 0 where
    pub turns : List (RsTurn K)
    pub session : Session edge_wire (IsRsTurn guards setup) conn turns ended
    pub over : AddsExchanges (exchanges_in (entries_in turns)) link link_now
    pub chained : Chained kept (entries_in turns) kept_now
    pub used : gear_now ≡ with_uses (moments_in turns) [] gear

  abbrev pub IsRsSession : Served → List (RsTurn K) → Type 0
  IsRsSession conn turns = (ended : ConnectionEnd EdgeFault) × Session edge_wire (IsRsTurn guards setup) conn turns ended

  -- each connection was served by its turns
  abbrev pub RsSessions : List Served → List (List (RsTurn K)) → Type 0
  RsSessions [] [] = Unit {0}
  RsSessions [] (turns ∷ more) = ⊥
  RsSessions (conn ∷ conns) [] = ⊥
  RsSessions (conn ∷ conns) (turns ∷ more) = IsRsSession conn turns × RsSessions conns more

  -- What a gear and a link tell, where this was kept first and that last: the connections were served by turns, in order; the moments are those of these
  -- turns, no words were drawn, and the exchanges are those of these turns and no others. What a turn kept, the next one began with, also on another
  -- connection.
  pub record IsRsAccount (first : K) (log : Log) (asked : List Exchange) (last : K) : Type 0 where
    pub turns : List (List (RsTurn K))
    pub sessions : RsSessions log.served turns
    pub moments : log.moments ≡ moments_in (joined turns)
    pub draws : log.draws ≡ []
    pub asked_is : asked ≡ exchanges_in (entries_in (joined turns))
    pub chained : Chained first (entries_in (joined turns)) last
