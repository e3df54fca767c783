use Rattle.std.proofs.Common.{◌≡◌, [], drop}
use Rattle.std.specs.List.{AllByRecursion}
use Rattle.serde_json.specs.View.{items_view}
use Rattle.json_objects.specs.Bodies.{AreBodies}
use Rattle.resource_server.specs.Fits.{RouteFits}
use Rattle.resource_server.specs.RsSetups.{routes_from}
use Rattle.resource_server.proofs.setup_reading.routes_from.Given as goal

abbrev pub invariant-loop-item : goal.invariant-loop-item
invariant-loop-item l = record {
  read : routes_from l.routes (items_view (drop l.item-index l.item-items)) ≡ routes_from [] (items_view l.item-items);
  bodies : AreBodies (items_view (drop l.item-index l.item-items));
  fits : AllByRecursion RouteFits l.routes;
}
