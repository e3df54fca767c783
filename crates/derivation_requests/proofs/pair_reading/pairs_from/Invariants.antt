use Rattle.std.proofs.Common.{◌≡◌, [], drop}
use Rattle.std.specs.List.{AllByRecursion}
use Rattle.serde_json.specs.View.{items_view}
use Rattle.derivation_requests.specs.Pairs.{PairFits, pairs_from}
use Rattle.derivation_requests.proofs.pair_reading.pairs_from.Given as goal

abbrev pub invariant-loop-item : goal.invariant-loop-item
invariant-loop-item l = record {
  read : pairs_from l.setup l.pairs (items_view (drop l.item-index l.item-items)) ≡ pairs_from l.setup [] (items_view l.item-items);
  fits : AllByRecursion PairFits l.pairs;
}
