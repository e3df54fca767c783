use Rattle.grant_states.proofs.GrantLemmas.{ascending_places}
use Rattle.grant_states.proofs.NamedRounds.{still_named}
use Rattle.grant_states.proofs.grant_table.GrantTable.drop_former_handles.Goals as goal

pub drop_unnamed-requires : goal.drop_unnamed-requires
drop_unnamed-requires c = ascending_places c.as_slice.result.now c.self.inside.places.items c.self.inside.doors.items c.self.inside.doors_below
    c.as_slice.ensures.value c.self.invariant.0

pub invariant_of-self : goal.invariant_of-self
invariant_of-self c = (
  c.self.invariant.0,
  still_named c.as_slice.result.now c.self.inside.places.items c.self.inside.doors.items c.self.inside.doors_below c.self.inside.handles.listed
      c.drop_unnamed.new.handles.listed c.as_slice.ensures.value c.self.invariant.0 c.self.invariant.1
      c.drop_unnamed.ensures,
  c.self.invariant.2,
)
