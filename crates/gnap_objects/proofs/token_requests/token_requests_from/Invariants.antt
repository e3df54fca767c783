use Rattle.std.proofs.Common.{◌≡◌, ℕ, List, [], false, drop}
use Rattle.std.specs.List.{AllByRecursion, list_any}
use Rattle.serde_json.specs.View.{items_view}
use Rattle.json_objects.specs.Bodies.{AreBodies}
use Rattle.json_objects.specs.TextSets.{has_text}
use Rattle.gnap_objects.specs.Fits.{AskFits}
use Rattle.gnap_objects.specs.TokenRequests.{has_label, token_requests_from}
use Rattle.gnap_objects.proofs.token_requests.token_requests_from.Given as goal

abbrev pub invariant-loop-item : goal.invariant-loop-item
invariant-loop-item l = record {
  read : token_requests_from l.asks l.repeats_flag (items_view (drop l.item-index l.item-items)) ≡ token_requests_from [] false (items_view l.item-items);
  labels : (label : List ℕ) → has_text l.labels label ≡ list_any (has_label label) l.asks;
  bodies : AreBodies (items_view (drop l.item-index l.item-items));
  fits : AllByRecursion AskFits l.asks;
}
