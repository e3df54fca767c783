use Rattle.std.proofs.Common.{ap, refl, sym, subst, ◌∙◌, ◌+◌, ◌<◌, ◌≤◌, ◌++◌, ◌∷◌, [], length, arith, List}
use Rattle.std.proofs.Math.ListN.{set}
use Rattle.gnap_tables.specs.Tables.{with_door}
use Rattle.grant_states.specs.declared.numbers_by_key.Listed.{Listed}
use Rattle.grant_states.specs.Listed.{under}
use Rattle.grant_states.specs.Grants.{StoredGrants, IsGrantPlace, AreGrantPlaces}
use Rattle.grant_states.proofs.NamedRounds.{named_after, named_set, IsNamed}
use Rattle.grant_states.proofs.GrantLemmas.{ascending_places, door_keeps, renewed_one, listed_door, place_pairs, place_changed, places_changed, place_past}
use Rattle.grant_states.proofs.OpenRounds.{code_left, stays_at}
use Rattle.grant_states.proofs.grant_table.GrantTable.renew_door.Goals as goal

pub place_of-at-requires : goal.place_of-at-requires
place_of-at-requires c = ascending_places c.as_slice.result.now c.self.inside.places.items c.self.inside.doors.items c.self.inside.doors_below
    c.as_slice.ensures.value c.self.invariant.0

pub invariant_of-self : goal.invariant_of-self
invariant_of-self c =
    let e = ap (λ (s : StoredGrants). s.doors_below) c.self.view_is in
    let low : c.self.inside.doors_below ≤ c.args.serial = omega (arith, e, c.requires.fresh) in
    let old = subst (IsGrantPlace c.self.inside.doors.items) (sym c.index_mut.ensures.value)
    (c.self.invariant.0.each c.place_of-at.result c.index_mut.result.now (omega (arith, c.if-at-len.true, c.len.ensures))) in
    let listed = listed_door c.self.inside.places.items c.self.inside.doors.items c.self.inside.doors_below c.args.serial c.args.number c.self.invariant.0
    low in
    let one = renewed_one c.self.inside.doors.items c.args.number c.args.serial c.args.earliest c.args.value c.index_mut.result.now c.renew_place.new.place old
    c.renew_place.ensures (omega (arith, c.requires.small)) c.requires.door in
    let named = subst (IsNamed c.self.inside.handles.listed) (sym c.index_mut.ensures.value)
    (c.self.invariant.1 c.place_of-at.result c.index_mut.result.now (omega (arith, c.if-at-len.true, c.len.ensures))) in
    let inside : c.place_of-at.result < length c.self.inside.places.items = omega (arith, c.if-at-len.true, c.len.ensures) in
    let held = places_changed c.as_slice.result.now c.self.inside.places.items c.self.inside.doors.items _ c.self.inside.doors_below (c.args.serial + 1)
    c.place_of-at.result c.args.number (with_door c.args.value c.args.earliest) c.index_mut.result.now c.renew_place.new.place
    c.as_slice.ensures.value c.self.invariant.0 c.place_of-at.ensures (omega (arith, c.if-at-len.true, c.len.ensures)) c.index_mut.ensures.value
    c.renew_place.ensures.changes (door_keeps c.args.value c.args.earliest)
    listed.each one listed.doors_ascend listed.doors_low in (
      subst (λ (ds : List Listed). AreGrantPlaces (set c.self.inside.places.items c.place_of-at.result c.renew_place.new.place) ds (c.args.serial + 1))
          (sym c.push_reserved.ensures.items) held,
      named_set c.self.inside.handles.listed c.self.inside.places.items c.place_of-at.result c.renew_place.new.place c.self.invariant.1
          (named_after c.self.inside.handles.listed c.args.number (with_door c.args.value c.args.earliest) c.index_mut.result.now c.renew_place.new.place
          c.renew_place.ensures.changes named (λ e. named)),
      stays_at c.self.inside.swept c.self.inside.codes c.self.inside.places.items c.place_of-at.result c.index_mut.result.now c.renew_place.new.place
          c.self.invariant.2
          (place_pairs c.self.inside.places.items c.self.inside.doors.items c.self.inside.doors_below c.self.invariant.0) inside c.index_mut.ensures.value
          c.renew_place.ensures.changes.number_kept
          (place_pairs (set c.self.inside.places.items c.place_of-at.result c.renew_place.new.place)
          (c.self.inside.doors.items ++ under c.args.serial c.args.number ∷ []) (c.args.serial + 1) held)
          (code_left c.self.inside.swept c.args.number (with_door c.args.value c.args.earliest) c.index_mut.result.now c.renew_place.new.place
          c.renew_place.ensures.changes (λ row. refl)),
    )

pub invariant_of-self-else-at-len : goal.invariant_of-self-else-at-len
invariant_of-self-else-at-len c =
    let e = ap (λ (s : StoredGrants). s.doors_below) c.self.view_is in
    let low : c.self.inside.doors_below ≤ c.args.serial = omega (arith, e, c.requires.fresh) in (
      subst (λ (ds : List Listed). AreGrantPlaces c.self.inside.places.items ds (c.args.serial + 1)) (sym c.push_reserved.ensures.items)
          (listed_door c.self.inside.places.items c.self.inside.doors.items c.self.inside.doors_below c.args.serial c.args.number c.self.invariant.0 low),
      c.self.invariant.1,
      c.self.invariant.2,
    )

pub returns-then-at-len-clause-rows : goal.returns-then-at-len-clause-rows
returns-then-at-len-clause-rows c =
    place_changed c.as_slice.result.now c.self.inside.places.items c.self.inside.doors.items c.self.inside.doors_below c.args.self.now.rows c.place_of-at.result
    c.args.number (with_door c.args.value c.args.earliest) c.index_mut.result.now c.renew_place.new.place
    c.as_slice.ensures.value (ap (λ (s : StoredGrants). s.rows) c.self.view_is) c.self.invariant.0 c.place_of-at.ensures
    (omega (arith, c.if-at-len.true, c.len.ensures)) c.index_mut.ensures.value c.renew_place.ensures.changes

pub returns-else-at-len-clause-rows : goal.returns-else-at-len-clause-rows
returns-else-at-len-clause-rows c = (ap (λ (s : StoredGrants). s.rows) c.self.view_is) ∙
    place_past c.as_slice.result.now c.self.inside.places.items c.self.inside.doors.items c.self.inside.doors_below c.args.self.now.rows c.place_of-at.result
    c.args.number (with_door c.args.value c.args.earliest) c.as_slice.ensures.value (ap (λ (s : StoredGrants). s.rows) c.self.view_is) c.self.invariant.0
    c.place_of-at.ensures
    (omega (arith, c.if-at-len.false, c.len.ensures))
