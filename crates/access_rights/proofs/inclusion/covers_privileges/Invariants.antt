use Rattle.std.proofs.Common.{◌≡◌, drop, Some, map, option_map}
use Rattle.std.specs.List.{list_all}
use Rattle.access_rights.specs.Inclusion.{has_atom, atom_at}
use Rattle.access_rights.proofs.inclusion.covers_privileges.Given as goal

abbrev pub invariant-loop-privilege : goal.invariant-loop-privilege
invariant-loop-privilege l = list_all
    (λ v. has_atom l.granted (atom_at l.wanted (option_map (λ b. b.now) l.action) (option_map (λ b. b.now) l.location) (option_map (λ b. b.now) l.datatype) v))
    (map Some (drop l.privilege-index l.privilege-items))
    ≡ list_all (λ v. has_atom l.granted
    (atom_at l.wanted (option_map (λ b. b.now) l.action) (option_map (λ b. b.now) l.location) (option_map (λ b. b.now) l.datatype) v))
    (map Some l.privilege-items)
