use Rattle.std.proofs.Common.{◌≡◌, ◌∙◌, List, [], ◌∷◌, ◌++◌, Ok, refl, sym, ap, subst}
use Rattle.std.specs.List.{AllByRecursion}
use Rattle.serde_json.specs.Data.{Data, Items, item}
use Rattle.json_objects.specs.Bodies.{AreBodies}
use Rattle.json_objects.proofs.Items.{items_view-drop}
use Rattle.access_rights.proofs.OneMore.{all_more}
use Rattle.resource_server.specs.declared.setup.Route.{Route}
use Rattle.resource_server.specs.Fits.{RouteFits}
use Rattle.resource_server.specs.RsSetups.{route_from, routes_from}
use Rattle.resource_server.proofs.setup_reading.routes_from.Goals as goal

-- one route more was read
next : (routes more : List Route) (d : Data) (ds : Items) (route : Route) → route_from routes d ≡ Ok route → more ≡ routes ++ route ∷ []
    → routes_from more ds ≡ routes_from routes (item d ds)
next routes more d ds route read is = rw (is, read) refl

pub loop-item-preserved : goal.loop-item-preserved
loop-item-preserved c =
    let routes = c.loop-item.routes in
    let read = c.in_ok-route_from.ensures in
    let added = c.in_ok-push.ensures.ok in
    let first = items_view-drop c.deref-item-items.result.now c.loop-item.item-index c.item-item.result c.loop-item-test.true c.item-item.is in
    record {
      read = next routes _ _ _ _ read.value added ∙ ap (routes_from routes) (sym first) ∙ c.loop-item.invariant.read;
      bodies = (subst AreBodies first c.loop-item.invariant.bodies).1;
      fits = subst (AllByRecursion RouteFits) (sym added) (all_more RouteFits routes _ c.loop-item.invariant.fits read.fits);
    }
