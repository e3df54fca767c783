use Rattle.std.proofs.Common.{◌≡◌, drop}
use Rattle.std.specs.List.{list_any}
use Rattle.gnap_model.specs.Rights.{right_atoms, same_atom}
use Rattle.gnap_model.specs.Rights.Atom.{Name}
use Rattle.access_rights.specs.Inclusion.{has_atom}
use Rattle.access_rights.proofs.inclusion.has_reference.Given as goal

abbrev pub invariant-loop-right : goal.invariant-loop-right
invariant-loop-right l = list_any (λ r. list_any (same_atom (Name l.name)) (right_atoms r)) (drop l.right-index l.right-items)
    ≡ has_atom l.granted (Name l.name)
