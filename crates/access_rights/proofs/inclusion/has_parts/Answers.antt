use Rattle.std.proofs.Common.{List, ap, ◌∙◌}
use Rattle.std.specs.List.{list_any}
use Rattle.gnap_model.specs.declared.rights.Right.{Right}
use Rattle.std.specs.Prelude.{option_map}
use Rattle.gnap_model.specs.Rights.{right_atoms, same_atom, Atom}
use Rattle.access_rights.specs.Inclusion.{atom_at}
use Rattle.access_rights.proofs.Atoms.{has_each}
use Rattle.access_rights.proofs.inclusion.has_parts.Goals as goal

pub loop-right-init : goal.loop-right-init
loop-right-init c =
    let a : Atom = atom_at c.args.wanted.now (option_map (λ b. b.now) c.args.action) (option_map (λ b. b.now) c.args.location)
    (option_map (λ b. b.now) c.args.datatype) (option_map (λ b. b.now) c.args.privilege) in
    ap (λ (rs : List Right). list_any (λ r. list_any (same_atom a) (right_atoms r)) rs) c.as_slice-right-items.ensures ∙ has_each a c.args.granted.now
