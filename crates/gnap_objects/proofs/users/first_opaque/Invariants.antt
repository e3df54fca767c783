use Rattle.std.proofs.Common.{◌≡◌, drop}
use Rattle.serde_json.specs.View.{items_view}
use Rattle.gnap_objects.specs.Users.{first_opaque}
use Rattle.gnap_objects.proofs.users.first_opaque.Given as goal

abbrev pub invariant-loop-identifier : goal.invariant-loop-identifier
invariant-loop-identifier l = first_opaque (items_view (drop l.identifier-index l.identifier-items)) ≡ first_opaque (items_view l.identifier-items)
