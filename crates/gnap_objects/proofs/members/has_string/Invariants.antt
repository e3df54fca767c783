use Rattle.std.proofs.Common.{◌≡◌, ◌||◌, drop, Ok}
use Rattle.serde_json.specs.View.{items_view}
use Rattle.json_objects.specs.Reading.{◌>>=◌}
use Rattle.gnap_objects.specs.Reading.{has_string}
use Rattle.gnap_objects.proofs.members.has_string.Given as goal

abbrev pub invariant-loop-item : goal.invariant-loop-item
invariant-loop-item l = (has_string l.name l.wanted (items_view (drop l.item-index l.item-items)) >>= λ later. Ok (l.found || later))
    ≡ has_string l.name l.wanted (items_view l.item-items)
