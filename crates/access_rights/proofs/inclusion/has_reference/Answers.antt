use Rattle.std.proofs.Common.{List, ap, ◌∙◌}
use Rattle.std.specs.List.{list_any}
use Rattle.gnap_model.specs.declared.rights.Right.{Right}
use Rattle.gnap_model.specs.Rights.{right_atoms, same_atom}
use Rattle.gnap_model.specs.Rights.Atom.{Name}
use Rattle.access_rights.proofs.Atoms.{has_each}
use Rattle.access_rights.proofs.inclusion.has_reference.Goals as goal

pub loop-right-init : goal.loop-right-init
loop-right-init c = ap (λ (rs : List Right). list_any (λ r. list_any (same_atom (Name c.args.name.now)) (right_atoms r)) rs) c.as_slice-right-items.ensures
    ∙ has_each (Name c.args.name.now) c.args.granted.now
