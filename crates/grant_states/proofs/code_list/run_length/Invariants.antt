use Rattle.std.proofs.Common.{ℕ, ◌+◌, ◌-◌, ◌<◌, ◌≤◌, length}
use Rattle.gnap_tables.proofs.Lists.{HasItem}
use Rattle.grant_states.specs.Listed.{under}
use Rattle.grant_states.proofs.code_list.run_length.Given as goal

-- so many are there from the key on, and more than the end aren't looked for
abbrev pub invariant-loop-run : goal.invariant-loop-run
invariant-loop-run l = record {
  ordered : l.run ≤ l.end;
  within : l.end ≤ length l.items;
  there : (k : ℕ) → l.key ≤ k → k < l.key + l.run → (number : ℕ) × HasItem l.items (under k number);
}

abbrev pub decreases-loop-run : goal.decreases-loop-run
decreases-loop-run l = l.end - l.run
