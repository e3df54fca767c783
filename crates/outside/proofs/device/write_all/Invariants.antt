use Rattle.std.proofs.Common.{◌≡◌, ◌≤◌, ◌-◌, length, take}
use Rattle.outside.specs.Outside.{Writes}
use Rattle.outside.proofs.device.write_all.Given as goal

abbrev pub invariant-loop-at : goal.invariant-loop-at
invariant-loop-at g l = record {
  within : l.at ≤ length l.text;
  sent : Writes (take l.at l.text) (g.O.Device.told l.initial.out) (g.O.Device.told l.out);
  same : g.O.Device.faults l.out ≡ g.O.Device.faults l.initial.out;
}

abbrev pub decreases-loop-at : goal.decreases-loop-at
decreases-loop-at g l = length l.text - l.at
