use Rattle.std.proofs.Common.{ap, sym, subst, ◌<◌, length, set, arith}
use Rattle.grant_states.specs.Grants.{StoredGrants, IsGrantPlace, CanChange, changed_by, grant_in}
use Rattle.grant_states.proofs.Items.{all_mapped}
use Rattle.grant_states.proofs.NamedRounds.{named_after, named_set, round_after, IsNamed}
use Rattle.grant_states.proofs.GrantLemmas.{ascending_places, changes_keep, changed_one, door_kept, place_pairs, place_changed, places_changed, place_past}
use Rattle.grant_states.proofs.OpenRounds.{read_own, read_listed, read_moved}
use Rattle.grant_states.proofs.grant_table.GrantTable.change.Goals as goal

pub place_of-at-requires : goal.place_of-at-requires
place_of-at-requires c = ascending_places c.as_slice.result.now c.self.inside.places.items c.self.inside.doors.items c.self.inside.doors_below
    c.as_slice.ensures.value c.self.invariant.0

pub change_place-requires : goal.change_place-requires
change_place-requires c = all_mapped (CanChange c.args.change) grant_in c.self.inside.places.items c.args.self.now.rows c.place_of-at.result
    c.index_mut-place.result.now (ap (λ (s : StoredGrants). s.rows) c.self.view_is) c.requires (omega (arith, c.if-at-len.true, c.len.ensures))
    c.index_mut-place.ensures.value

pub change-requires-clause-own : goal.change-requires-clause-own
change-requires-clause-own c =
    let inside : c.place_of-at.result < length c.self.inside.places.items = omega (arith, c.if-at-len.true, c.len.ensures) in
    read_own c.self.inside.swept c.self.inside.codes c.self.inside.places.items c.place_of-at.result c.change_place.new.place.number c.index_mut-place.result.now
    c.open_code_at-before.result c.self.invariant.2
    (place_pairs c.self.inside.places.items c.self.inside.doors.items c.self.inside.doors_below c.self.invariant.0) inside
    c.index_mut-place.ensures.value c.change_place.ensures.changes.number_kept c.open_code_at-before.ensures

pub change-requires-clause-was : goal.change-requires-clause-was
change-requires-clause-was c =
    let inside : c.place_of-at.result < length c.self.inside.places.items = omega (arith, c.if-at-len.true, c.len.ensures) in
    read_listed c.self.inside.swept c.self.inside.codes c.self.inside.places.items c.place_of-at.result c.change_place.new.place.number c.index_mut-place.result.now
    c.open_code_at-before.result c.self.invariant.2 inside c.index_mut-place.ensures.value c.change_place.ensures.changes.number_kept c.open_code_at-before.ensures

pub invariant_of-self : goal.invariant_of-self
invariant_of-self c =
    let inside : c.place_of-at.result < length c.self.inside.places.items = omega (arith, c.if-at-len.true, c.len.ensures) in
    let named = subst (IsNamed c.self.inside.handles.listed) (sym c.index_mut-place.ensures.value)
    (c.self.invariant.1 c.place_of-at.result c.index_mut-place.result.now inside) in
    let old = subst (IsGrantPlace c.self.inside.doors.items) (sym c.index_mut-place.ensures.value)
    (c.self.invariant.0.each c.place_of-at.result c.index_mut-place.result.now inside) in
    let held = places_changed c.as_slice.result.now c.self.inside.places.items c.self.inside.doors.items c.self.inside.doors.items c.self.inside.doors_below
    c.self.inside.doors_below c.place_of-at.result c.args.number (changed_by c.args.change) c.index_mut-place.result.now c.change_place.new.place
    c.as_slice.ensures.value c.self.invariant.0 c.place_of-at.ensures inside c.index_mut-place.ensures.value c.change_place.ensures.changes
    (changes_keep c.args.change)
    c.self.invariant.0.each (changed_one c.self.inside.doors.items c.args.number (changed_by c.args.change) c.index_mut-place.result.now c.change_place.new.place
    (changes_keep c.args.change) (door_kept c.args.change) old c.change_place.ensures) c.self.invariant.0.doors_ascend c.self.invariant.0.doors_low in (
      held,
      named_set c.self.inside.handles.listed c.self.inside.places.items c.place_of-at.result c.change_place.new.place c.self.invariant.1
          (named_after c.self.inside.handles.listed c.args.number (changed_by c.args.change) c.index_mut-place.result.now c.change_place.new.place
          c.change_place.ensures.changes named
          (λ e. round_after c.self.inside.handles.listed c.index_mut-place.result.now.number c.args.change c.index_mut-place.result.now.row.value named)),
      read_moved c.self.inside.swept c.self.inside.codes c.change.new.self c.self.inside.places.items c.place_of-at.result c.index_mut-place.result.now
          c.change_place.new.place c.open_code_at-after.result c.self.invariant.2
          inside c.index_mut-place.ensures.value c.change_place.ensures.changes.number_kept
          (place_pairs (set c.self.inside.places.items c.place_of-at.result c.change_place.new.place) c.self.inside.doors.items c.self.inside.doors_below
          held) c.open_code_at-after.ensures (record
          { kept = c.change.ensures.kept; only = c.change.ensures.only; own = c.change.ensures.own; listed = c.change.ensures.listed }),
    )

pub returns-then-at-len-clause-rows : goal.returns-then-at-len-clause-rows
returns-then-at-len-clause-rows c =
    place_changed c.as_slice.result.now c.self.inside.places.items c.self.inside.doors.items c.self.inside.doors_below c.args.self.now.rows c.place_of-at.result
    c.args.number (changed_by c.args.change) c.index_mut-place.result.now c.change_place.new.place
    c.as_slice.ensures.value (ap (λ (s : StoredGrants). s.rows) c.self.view_is) c.self.invariant.0 c.place_of-at.ensures
    (omega (arith, c.if-at-len.true, c.len.ensures)) c.index_mut-place.ensures.value c.change_place.ensures.changes

pub returns-else-at-len-clause-rows : goal.returns-else-at-len-clause-rows
returns-else-at-len-clause-rows c =
    place_past c.as_slice.result.now c.self.inside.places.items c.self.inside.doors.items c.self.inside.doors_below c.args.self.now.rows c.place_of-at.result
    c.args.number (changed_by c.args.change) c.as_slice.ensures.value (ap (λ (s : StoredGrants). s.rows) c.self.view_is) c.self.invariant.0
    c.place_of-at.ensures
    (omega (arith, c.if-at-len.false, c.len.ensures))
