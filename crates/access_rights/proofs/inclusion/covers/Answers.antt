use Rattle.std.proofs.Common.{List, ap, ◌∙◌}
use Rattle.std.specs.List.{list_all}
use Rattle.gnap_model.specs.declared.rights.Right.{Right}
use Rattle.gnap_model.specs.Rights.{right_atoms}
use Rattle.access_rights.specs.Inclusion.{has_atom}
use Rattle.access_rights.proofs.Atoms.{covers_each}
use Rattle.access_rights.proofs.inclusion.covers.Goals as goal

pub loop-right-init : goal.loop-right-init
loop-right-init c = ap (λ (rs : List Right). list_all (λ r. list_all (has_atom c.args.granted.now) (right_atoms r)) rs) c.as_slice-right-items.ensures
    ∙ covers_each c.args.granted.now c.args.wanted.now
