use Rattle.std.proofs.Common.{◌≡◌, ◌≤◌, ◌+◌, ◌-◌, ◌++◌, take, replicate}
use Rattle.gnap_io.proofs.memory_devices.fill_further.Given as goal

abbrev pub invariant-loop-at : goal.invariant-loop-at
invariant-loop-at l = record {
  within : l.at ≤ l.back;
  same : take (l.front + l.at) l.buf ≡ take l.front l.from ++ replicate l.at l.byte;
}

abbrev pub decreases-loop-at : goal.decreases-loop-at
decreases-loop-at l = l.back - l.at
