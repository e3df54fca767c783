use Rattle.std.proofs.Common.{◌≡◌, ◌≤◌, ◌-◌, All, vec_len, vec_capacity}
use Rattle.outside.specs.Gears.{new_gear}
use Rattle.outside.specs.contracts.real_gear.RealGearCounted.TheImpl as Counted
use Rattle.outside.proofs.real_world.fill_gears.Given as goal

abbrev pub invariant-loop-seed : goal.invariant-loop-seed
invariant-loop-seed g l = record {
  long : vec_len l.gears ≤ l.n;
  room : l.n ≤ vec_capacity l.gears;
  each : All (λ gear. (Counted.state-value g.row.R g.R.Clock g.R.Clock-dict).it gear ≡ new_gear l.quota) l.gears.items;
}

abbrev pub decreases-loop-seed : goal.decreases-loop-seed
decreases-loop-seed g l = l.n - vec_len l.gears
