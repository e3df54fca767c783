use Rattle.std.proofs.Common.{subst, sym}
use Rattle.grant_states.specs.Listed.{Ascend}
use Rattle.grant_states.proofs.CodeLists.{picked_ascend}
use Rattle.grant_states.proofs.code_list.CodeList.keep.Goals as goal

pub invariant_of-self : goal.invariant_of-self
invariant_of-self g c = subst Ascend (sym c.retain.ensures.filtered.4) (picked_ascend c.retain.ensures.filtered.0 c.self.inside.listed.items c.self.invariant)
