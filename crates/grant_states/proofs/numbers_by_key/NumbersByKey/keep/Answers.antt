use Rattle.std.proofs.Common.{subst, sym}
use Rattle.std.specs.List.Sorted.{IsNonDecreasingBy}
use Rattle.grant_states.specs.Listed.{key_of}
use Rattle.grant_states.proofs.ListedNumbers.{picked_order}
use Rattle.grant_states.proofs.numbers_by_key.NumbersByKey.keep.Goals as goal

pub invariant_of-self : goal.invariant_of-self
invariant_of-self g c =
    subst (IsNonDecreasingBy key_of) (sym c.retain.ensures.filtered.4)
    (picked_order key_of c.retain.ensures.filtered.0 c.self.inside.listed.items c.self.invariant)
