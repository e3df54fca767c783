use Rattle.std.proofs.Common.{◌≡◌, ◌+◌, length}
use Rattle.serving.specs.Workers.{IsSameWorker}
use Rattle.serving.proofs.worker.Worker.drain.Given as goal

abbrev pub invariant-loop : goal.invariant-loop
invariant-loop g l = record {
  same : IsSameWorker l.fn.self l.self;
  served : length l.self.gear.log.served + l.self.gear.left ≡ length l.fn.self.gear.log.served + l.fn.self.gear.left;
  faults : l.self.gear.faults ≡ l.fn.self.gear.faults;
}

abbrev pub decreases-loop : goal.decreases-loop
decreases-loop g l = l.self.gear.left
