use Rattle.std.proofs.Common.{◌≡◌, drop, Some, map, option_map}
use Rattle.std.specs.List.{list_all}
use Rattle.access_rights.specs.Inclusion.{covers_privileges}
use Rattle.access_rights.proofs.inclusion.covers_datatypes.Given as goal

abbrev pub invariant-loop-datatype : goal.invariant-loop-datatype
invariant-loop-datatype l = list_all (λ v. covers_privileges l.granted l.wanted (option_map (λ b. b.now) l.action) (option_map (λ b. b.now) l.location) v)
    (map Some (drop l.datatype-index l.datatype-items))
    ≡ list_all (λ v. covers_privileges l.granted l.wanted (option_map (λ b. b.now) l.action) (option_map (λ b. b.now) l.location) v) (map Some l.datatype-items)
