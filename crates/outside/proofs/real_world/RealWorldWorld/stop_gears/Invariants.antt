use Rattle.std.proofs.Common.{◌≡◌, ◌≤◌, ◌++◌, map, drop}
use Rattle.outside.specs.contracts.real_gear.RealGearCounted.TheImpl as Counted
use Rattle.outside.proofs.real_world.RealWorldWorld.stop_gears.Given as goal

abbrev pub invariant-loop-gear : goal.invariant-loop-gear
invariant-loop-gear g l = record {
  taken_back : map (λ pair. (Counted.state-value g.row.R g.R.Clock g.R.Clock-dict).it pair.0) l.taken_back.items
      ++ map (Counted.state-value g.row.R g.R.Clock g.R.Clock-dict).it (drop l.gear-index l.gear-items)
      ≡ map (Counted.state-value g.row.R g.R.Clock g.R.Clock-dict).it l.gear-items;
  some_failed : l.failed ≤ l.gear-index;
}
