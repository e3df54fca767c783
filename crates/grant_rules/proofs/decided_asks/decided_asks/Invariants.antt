use Rattle.std.proofs.Common.{◌≡◌, ◌≤◌, ◌++◌, drop, length}
use Rattle.std.specs.List.{filter_map}
use Rattle.gnap_model.specs.Continue.{decided_ask}
use Rattle.grant_rules.proofs.decided_asks.decided_asks.Given as goal

abbrev pub invariant-loop-ask : goal.invariant-loop-ask
invariant-loop-ask l = record {
  joined : (l.left ++ filter_map (decided_ask l.decided) (drop l.ask-index l.ask-items)) ≡ filter_map (decided_ask l.decided) l.asks;
  few : length l.left ≤ l.ask-index;
}
