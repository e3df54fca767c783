use Rattle.std.proofs.Common.{◌≡◌, ℕ, List, [], drop}
use Rattle.std.specs.List.{AllByRecursion, list_any}
use Rattle.serde_json.specs.View.{items_view}
use Rattle.json_objects.specs.Bodies.{AreBodies}
use Rattle.json_objects.specs.TextSets.{has_text}
use Rattle.gnap_objects.specs.Fits.{KeyFits}
use Rattle.gnap_objects.specs.Setups.{has_id, keys_from}
use Rattle.gnap_objects.proofs.setups.keys_from.Given as goal

abbrev pub invariant-loop-item : goal.invariant-loop-item
invariant-loop-item l = record {
  read : keys_from l.keys (items_view (drop l.item-index l.item-items)) ≡ keys_from [] (items_view l.item-items);
  ids : (id : List ℕ) → has_text l.ids id ≡ list_any (has_id id) l.keys;
  bodies : AreBodies (items_view (drop l.item-index l.item-items));
  fits : AllByRecursion KeyFits l.keys;
}
