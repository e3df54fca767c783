use Rattle.std.proofs.Common.{subst, sym, List}
use Rattle.grant_states.specs.declared.numbers_by_key.Listed.{Listed}
use Rattle.grant_states.specs.Grants.{AreGrantPlaces}
use Rattle.grant_states.proofs.GrantLemmas.{ascending_places, current_kept}
use Rattle.grant_states.proofs.grant_table.GrantTable.drop_former.Goals as goal

pub drop_stale-requires : goal.drop_stale-requires
drop_stale-requires c = ascending_places c.as_slice.result.now c.self.inside.places.items c.self.inside.doors.items c.self.inside.doors_below
    c.as_slice.ensures.value c.self.invariant.0

pub invariant_of-self : goal.invariant_of-self
invariant_of-self c = (
  subst (λ (ds : List Listed). AreGrantPlaces c.self.inside.places.items ds c.self.inside.doors_below) (sym c.drop_stale.ensures)
      (current_kept c.as_slice.result.now c.self.inside.places.items c.self.inside.doors.items c.self.inside.doors_below c.as_slice.ensures.value
      c.self.invariant.0),
  c.self.invariant.1,
  c.self.invariant.2,
)
