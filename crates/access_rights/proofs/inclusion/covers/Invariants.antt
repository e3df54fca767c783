use Rattle.std.proofs.Common.{◌≡◌, drop}
use Rattle.std.specs.List.{list_all}
use Rattle.gnap_model.specs.Rights.{right_atoms, covers}
use Rattle.access_rights.specs.Inclusion.{has_atom}
use Rattle.access_rights.proofs.inclusion.covers.Given as goal

abbrev pub invariant-loop-right : goal.invariant-loop-right
invariant-loop-right l = list_all (λ r. list_all (has_atom l.granted) (right_atoms r)) (drop l.right-index l.right-items) ≡ covers l.granted l.wanted
