use Rattle.std.proofs.Common.{◌≤◌, ◌-◌}
use Rattle.serving.proofs.ConnectionLemmas.{ServedSoFar}
use Rattle.serving.proofs.connection.serve_connection.Given as goal

abbrev pub invariant-loop-held : goal.invariant-loop-held
invariant-loop-held g l = record {
  few : l.place ≤ 999;
  so_far : (p : _) → (g.V.TurnTaker.backend_kind l.fn.server).seen l.fn.backend p
      → ServedSoFar (g.V.TurnTaker.backend_kind l.fn.server) (g.V.TurnTaker.is_turn l.fn.server)
      g.W.MessageReader.wire l.place l.fn.backend p l.backend (g.G.Counted.state l.fn.gear) (g.G.Counted.state l.gear) (g.S.Device.told l.conn)
      (g.S.Device.faults l.conn)
      (g.W.MessageReader.held_bytes l.held);
}

abbrev pub decreases-loop-held : goal.decreases-loop-held
decreases-loop-held g l = 1000 - l.place
