use Rattle.std.proofs.Common.{◌+◌, ◌-◌, ◌/◌, arith}
use Rattle.ordered_search.proofs.Halving.{one_step}
use Rattle.ordered_search.proofs.Sides.{before, after}
use Rattle.ordered_search.proofs.search.place.Goals as goal

pub loop-low-preserved-then-is_below : goal.loop-low-preserved-then-is_below
loop-low-preserved-then-is_below g c = record {
  ordered = omega (arith, c.loop-low-test.true);
  within = c.loop-low.invariant.within;
  below = λ i at. before g.T.Keyed.key_of c.args.items.now (c.loop-low.low + (c.loop-low.high - c.loop-low.low) / 2) i c.args.key c.index-items-middle.result
      c.index-items-middle.is c.requires (omega (arith, c.loop-low-test.true, c.loop-low.invariant.within)) c.if-is_below.ensures.value at;
  above = c.loop-low.invariant.above;
  grows = omega (arith, c.loop-low.invariant.grows, c.is_below.ensures.step);
  cost = one_step _ _ _ _ _ _ c.loop-low.invariant.grows c.is_below.ensures.step (omega (arith, c.loop-low-test.true)) (omega (arith, c.loop-low-test.true))
      c.loop-low.invariant.cost;
}

pub loop-low-preserved : goal.loop-low-preserved
loop-low-preserved g c = record {
  ordered = omega (arith, c.loop-low-test.true);
  within = omega (arith, c.loop-low-test.true, c.loop-low.invariant.within);
  below = c.loop-low.invariant.below;
  above = λ i at in_items. after g.T.Keyed.key_of c.args.items.now (c.loop-low.low + (c.loop-low.high - c.loop-low.low) / 2) i c.args.key
      c.index-items-middle.result c.index-items-middle.is c.requires at in_items c.if-is_below.ensures.value;
  grows = omega (arith, c.loop-low.invariant.grows, c.is_below.ensures.step);
  cost = one_step _ _ _ _ _ _ c.loop-low.invariant.grows c.is_below.ensures.step (omega (arith, c.loop-low-test.true)) (omega (arith, c.loop-low-test.true))
      c.loop-low.invariant.cost;
}
