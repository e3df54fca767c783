use Rattle.std.proofs.Common.{◌≡◌, drop, Some, map}
use Rattle.std.specs.List.{list_all}
use Rattle.access_rights.specs.Inclusion.{covers_locations}
use Rattle.access_rights.proofs.inclusion.covers_object.Given as goal

abbrev pub invariant-loop-action : goal.invariant-loop-action
invariant-loop-action l = list_all (λ v. covers_locations l.granted l.wanted v) (map Some (drop l.action-index l.action-items))
    ≡ list_all (λ v. covers_locations l.granted l.wanted v) (map Some l.action-items)
