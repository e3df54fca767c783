use Rattle.std.proofs.Common.{◌-◌, ℕ, ◌*◌, ◌^◌, ◌<◌, ◌≤◌, length, map, slice_index}
use Rattle.std.specs.Prelude.{max}
use Rattle.ordered_search.proofs.search.place.Given as goal

-- the place lies between low and high, and what was spent and what is left fit the bound
abbrev pub invariant-loop-low : goal.invariant-loop-low
invariant-loop-low g l = record {
  ordered : l.low ≤ l.high;
  within : l.high ≤ length l.items;
  below : (i : ℕ) → i < l.low → slice_index (map g.T.Keyed.key_of l.items) i < l.key;
  above : (i : ℕ) → l.high ≤ i → i < length (map g.T.Keyed.key_of l.items) → l.key ≤ slice_index (map g.T.Keyed.key_of l.items) i;
  grows : l.fn.steps ≤ l.steps;
  cost : 2 ^ (l.steps - l.fn.steps) * max (2 * (l.high - l.low)) 1 ≤ max (2 * length l.items) 1;
}

abbrev pub decreases-loop-low : goal.decreases-loop-low
decreases-loop-low g l = l.high - l.low
