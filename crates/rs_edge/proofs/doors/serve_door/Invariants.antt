use Rattle.std.proofs.Common.{◌≡◌, ◌+◌, length}
use Rattle.rs_edge.specs.RsSessions.{IsRsAccount}
use Rattle.rs_edge.proofs.doors.serve_door.Given as goal

abbrev pub invariant-loop-alloc : goal.invariant-loop-alloc
invariant-loop-alloc g l = record {
  account : IsRsAccount g.K.RequestGuard.guards l.setup (g.K.RequestGuard.kept l.fn.guard) (g.G.Counted.state l.gear).log (g.L.Link.link l.link).asked
      (g.K.RequestGuard.kept l.guard);
  out : (g.G.Counted.state l.gear).out ≡ 0;
  served : length (g.G.Counted.state l.gear).log.served + (g.G.Counted.state l.gear).left
      ≡ length (g.G.Counted.state l.fn.gear).log.served + (g.G.Counted.state l.fn.gear).left;
  faults : (g.G.Counted.state l.gear).faults ≡ (g.G.Counted.state l.fn.gear).faults;
}

abbrev pub decreases-loop-alloc : goal.decreases-loop-alloc
decreases-loop-alloc g l = (g.G.Counted.state l.gear).left
