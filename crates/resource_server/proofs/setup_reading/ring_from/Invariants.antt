use Rattle.std.proofs.Common.{◌≡◌, [], drop}
use Rattle.serde_json.specs.View.{items_view}
use Rattle.resource_server.specs.RsSetups.{ring_from}
use Rattle.resource_server.proofs.setup_reading.ring_from.Given as goal

abbrev pub invariant-loop-item : goal.invariant-loop-item
invariant-loop-item l = ring_from l.ring (items_view (drop l.item-index l.item-items)) ≡ ring_from [] (items_view l.item-items)
