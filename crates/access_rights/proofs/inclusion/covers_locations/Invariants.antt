use Rattle.std.proofs.Common.{◌≡◌, drop, Some, map, option_map}
use Rattle.std.specs.List.{list_all}
use Rattle.access_rights.specs.Inclusion.{covers_datatypes}
use Rattle.access_rights.proofs.inclusion.covers_locations.Given as goal

abbrev pub invariant-loop-location : goal.invariant-loop-location
invariant-loop-location l = list_all (λ v. covers_datatypes l.granted l.wanted (option_map (λ b. b.now) l.action) v)
    (map Some (drop l.location-index l.location-items))
    ≡ list_all (λ v. covers_datatypes l.granted l.wanted (option_map (λ b. b.now) l.action) v) (map Some l.location-items)
