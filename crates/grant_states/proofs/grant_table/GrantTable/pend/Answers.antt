use Rattle.std.proofs.Common.{ap, sym, subst, ◌≡◌, ◌<◌, ◌∙◌, List, length, set, arith}
use Rattle.gnap_tables.specs.declared.rows.Round.{Round}
use Rattle.gnap_tables.proofs.Lists.{HasItem}
use Rattle.grant_states.specs.declared.numbers_by_key.Listed.{Listed}
use Rattle.grant_states.specs.Listed.{under}
use Rattle.grant_states.specs.Serials.{handle_key}
use Rattle.grant_states.specs.Grants.{StoredGrants, IsGrantPlace, IsHandleListed, in_round}
use Rattle.grant_states.proofs.GrantLemmas.{ascending_places, changed_one, place_pairs, place_changed, places_changed, place_past}
use Rattle.grant_states.proofs.NamedRounds.{named_after, named_set, still_listed, round_keeps_number, round_keeps_door, IsNamed}
use Rattle.grant_states.proofs.OpenRounds.{read_own, read_listed, read_moved}
use Rattle.grant_states.proofs.grant_table.GrantTable.pend.Goals as goal

pub place_of-at-requires : goal.place_of-at-requires
place_of-at-requires c = ascending_places c.as_slice.result.now c.self.inside.places.items c.self.inside.doors.items c.self.inside.doors_below
    c.as_slice.ensures.value c.self.invariant.0

pub change-requires-clause-own : goal.change-requires-clause-own
change-requires-clause-own c =
    let inside : c.place_of-at.result < length c.self.inside.places.items = omega (arith, c.if-at-len.true, c.len.ensures) in
    read_own c.self.inside.swept c.self.inside.codes c.self.inside.places.items c.place_of-at.result c.pend_place.new.place.number c.index_mut-place.result.now
    c.open_code_at-before.result c.self.invariant.2
    (place_pairs c.self.inside.places.items c.self.inside.doors.items c.self.inside.doors_below c.self.invariant.0) inside
    c.index_mut-place.ensures.value c.pend_place.ensures.changes.number_kept c.open_code_at-before.ensures

pub change-requires-clause-was : goal.change-requires-clause-was
change-requires-clause-was c =
    let inside : c.place_of-at.result < length c.self.inside.places.items = omega (arith, c.if-at-len.true, c.len.ensures) in
    read_listed c.self.inside.swept c.self.inside.codes c.self.inside.places.items c.place_of-at.result c.pend_place.new.place.number c.index_mut-place.result.now
    c.open_code_at-before.result c.self.invariant.2 inside c.index_mut-place.ensures.value c.pend_place.ensures.changes.number_kept c.open_code_at-before.ensures

pub invariant_of-self : goal.invariant_of-self
invariant_of-self c =
    let inside : c.place_of-at.result < length c.self.inside.places.items = omega (arith, c.if-at-len.true, c.len.ensures) in
    let handles : List Listed = c.list.new.self.listed in
    let all = still_listed c.self.inside.handles.listed handles c.self.inside.places.items c.list.ensures.kept c.self.invariant.1 in
    let named = subst (IsNamed handles) (sym c.index_mut-place.ensures.value) (all c.place_of-at.result c.index_mut-place.result.now inside) in
    let old = subst (IsGrantPlace c.self.inside.doors.items) (sym c.index_mut-place.ensures.value)
    (c.self.invariant.0.each c.place_of-at.result c.index_mut-place.result.now inside) in
    let held = places_changed c.as_slice.result.now c.self.inside.places.items c.self.inside.doors.items c.self.inside.doors.items c.self.inside.doors_below
    c.self.inside.doors_below c.place_of-at.result c.args.number (in_round c.args.round) c.index_mut-place.result.now c.pend_place.new.place
    c.as_slice.ensures.value c.self.invariant.0 c.place_of-at.ensures inside c.index_mut-place.ensures.value c.pend_place.ensures.changes
    (round_keeps_number c.args.round)
    c.self.invariant.0.each (changed_one c.self.inside.doors.items c.args.number (in_round c.args.round) c.index_mut-place.result.now c.pend_place.new.place
    (round_keeps_number c.args.round) (round_keeps_door c.args.round) old c.pend_place.ensures) c.self.invariant.0.doors_ascend
    c.self.invariant.0.doors_low in
    let key : c.handle_key.result ≡ handle_key c.args.round.handle = c.handle_key.ensures ∙ ap (λ (r : Round). handle_key r.handle) c.round-2.ensures in (
      held,
      named_set handles c.self.inside.places.items c.place_of-at.result c.pend_place.new.place all
          (named_after handles c.args.number (in_round c.args.round) c.index_mut-place.result.now c.pend_place.new.place c.pend_place.ensures.changes named
          (λ e. subst (λ n. IsHandleListed handles n c.args.round) e (subst (λ k. HasItem handles (under k c.args.number)) key c.list.ensures.listed))),
      read_moved c.self.inside.swept c.self.inside.codes c.change.new.self c.self.inside.places.items c.place_of-at.result c.index_mut-place.result.now
          c.pend_place.new.place c.open_code_at-after.result c.self.invariant.2
          inside c.index_mut-place.ensures.value c.pend_place.ensures.changes.number_kept
          (place_pairs (set c.self.inside.places.items c.place_of-at.result c.pend_place.new.place) c.self.inside.doors.items c.self.inside.doors_below
          held) c.open_code_at-after.ensures (record
          { kept = c.change.ensures.kept; only = c.change.ensures.only; own = c.change.ensures.own; listed = c.change.ensures.listed }),
    )

pub invariant_of-self-else-at-len : goal.invariant_of-self-else-at-len
invariant_of-self-else-at-len c = (
  c.self.invariant.0,
  still_listed c.self.inside.handles.listed c.list.new.self.listed c.self.inside.places.items c.list.ensures.kept c.self.invariant.1,
  c.self.invariant.2,
)

pub returns-then-at-len-clause-rows : goal.returns-then-at-len-clause-rows
returns-then-at-len-clause-rows c =
    place_changed c.as_slice.result.now c.self.inside.places.items c.self.inside.doors.items c.self.inside.doors_below c.args.self.now.rows c.place_of-at.result
    c.args.number (in_round c.args.round) c.index_mut-place.result.now c.pend_place.new.place
    c.as_slice.ensures.value (ap (λ (s : StoredGrants). s.rows) c.self.view_is) c.self.invariant.0 c.place_of-at.ensures
    (omega (arith, c.if-at-len.true, c.len.ensures)) c.index_mut-place.ensures.value c.pend_place.ensures.changes

pub returns-else-at-len-clause-rows : goal.returns-else-at-len-clause-rows
returns-else-at-len-clause-rows c = (ap (λ (s : StoredGrants). s.rows) c.self.view_is) ∙
    place_past c.as_slice.result.now c.self.inside.places.items c.self.inside.doors.items c.self.inside.doors_below c.args.self.now.rows c.place_of-at.result
    c.args.number (in_round c.args.round) c.as_slice.ensures.value (ap (λ (s : StoredGrants). s.rows) c.self.view_is) c.self.invariant.0
    c.place_of-at.ensures
    (omega (arith, c.if-at-len.false, c.len.ensures))
