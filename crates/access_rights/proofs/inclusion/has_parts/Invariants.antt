use Rattle.std.proofs.Common.{◌≡◌, drop, option_map}
use Rattle.std.specs.List.{list_any}
use Rattle.gnap_model.specs.Rights.{right_atoms, same_atom}
use Rattle.access_rights.specs.Inclusion.{has_atom, atom_at}
use Rattle.access_rights.proofs.inclusion.has_parts.Given as goal

abbrev pub invariant-loop-right : goal.invariant-loop-right
invariant-loop-right l = list_any
    (λ r. list_any (same_atom (atom_at l.wanted (option_map (λ b. b.now) l.action) (option_map (λ b. b.now) l.location) (option_map (λ b. b.now) l.datatype)
    (option_map (λ b. b.now) l.privilege))) (right_atoms r)) (drop l.right-index l.right-items)
    ≡ has_atom l.granted (atom_at l.wanted (option_map (λ b. b.now) l.action) (option_map (λ b. b.now) l.location) (option_map (λ b. b.now) l.datatype)
    (option_map (λ b. b.now) l.privilege))
