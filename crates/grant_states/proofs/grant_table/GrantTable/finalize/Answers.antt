use Rattle.std.proofs.Common.{map, ap, sym, subst, ◌∙◌, ◌<◌, length, arith, List, Option}
use Rattle.std.specs.Prelude.{IfSome}
use Rattle.gnap_model.specs.Common.{Text}
use Rattle.gnap_tables.specs.Tables.{drop_grant}
use Rattle.grant_states.specs.declared.grant_table.GrantPlace.{GrantPlace}
use Rattle.grant_states.specs.Grants.{StoredGrants, AreCodesListed, AreGrantPlaces, AreHandlesListed, code_at, grant_in}
use Rattle.grant_states.specs.OpenCodes.{HasCode, IsCodeIn, IsCodeListed}
use Rattle.grant_states.proofs.Items.{same_place}
use Rattle.grant_states.proofs.GrantLemmas.{ascending_places, place_pairs, place_removed, none_removed}
use Rattle.grant_states.proofs.NamedRounds.{named_left}
use Rattle.grant_states.proofs.OpenRounds.{moved_out, own_code, own_listed}
use Rattle.grant_states.proofs.grant_table.GrantTable.finalize.Goals as goal
use Rattle.grant_states.proofs.grant_table.GrantTable.finalize.Goals.{else-at-len-via-then-at-len+else-index-number, else-at-len-via-else-at-len}

pub place_of-at-requires : goal.place_of-at-requires
place_of-at-requires c = ascending_places c.as_slice.result.now c.self.inside.places.items c.self.inside.doors.items c.self.inside.doors_below
    c.as_slice.ensures.value c.self.invariant.0

pub change-requires-clause-own : goal.change-requires-clause-own
change-requires-clause-own c =
    let inside : c.place_of-at.result < length c.self.inside.places.items = omega (arith, c.if-at-len.true, c.len.ensures) in
    let same = same_place c.self.inside.places.items c.place_of-at.result c.remove-gone.result c.index.result.now inside
    c.remove-gone.ensures.value c.index.ensures in
    λ n h. subst (IsCodeIn n) (sym (c.open_code_at-before.ensures ∙ ap (code_at c.self.inside.swept) same))
    (own_code c.self.inside.swept c.self.inside.codes c.self.inside.places.items c.place_of-at.result c.index.result.now c.self.invariant.2
    (place_pairs c.self.inside.places.items c.self.inside.doors.items c.self.inside.doors_below c.self.invariant.0) inside c.index.ensures n
    (subst (HasCode c.self.inside.codes n) (sym c.if-index-number.true) h))

pub change-requires-clause-was : goal.change-requires-clause-was
change-requires-clause-was c =
    let inside : c.place_of-at.result < length c.self.inside.places.items = omega (arith, c.if-at-len.true, c.len.ensures) in
    let same = same_place c.self.inside.places.items c.place_of-at.result c.remove-gone.result c.index.result.now inside
    c.remove-gone.ensures.value c.index.ensures in
    λ all. subst (λ (o : Option Text). IfSome o (IsCodeListed c.self.inside.codes c.args.number))
    (sym (c.open_code_at-before.ensures ∙ ap (code_at c.self.inside.swept) same))
    (subst (λ n. IfSome (code_at c.self.inside.swept c.index.result.now) (IsCodeListed c.self.inside.codes n)) c.if-index-number.true
    (own_listed c.self.inside.swept c.self.inside.codes c.self.inside.places.items c.place_of-at.result c.index.result.now c.self.invariant.2 inside
    c.index.ensures all))

pub invariant_of-self : goal.invariant_of-self
invariant_of-self c =
    let held = place_removed c.self.inside.places.items c.self.inside.doors.items c.self.inside.doors_below c.place_of-at.result c.args.number
    c.index.result.now c.self.invariant.0 (omega (arith, c.if-at-len.true, c.len.ensures)) c.index.ensures c.if-index-number.true in (
      subst (λ (ps : List GrantPlace). AreGrantPlaces ps c.self.inside.doors.items c.self.inside.doors_below) (sym c.remove-gone.ensures.items) held.1,
      subst (AreHandlesListed c.self.inside.handles.listed) (sym c.remove-gone.ensures.items)
          (named_left c.self.inside.handles.listed c.self.inside.places.items c.self.inside.doors.items c.self.inside.doors_below c.place_of-at.result
          c.args.number c.index.result.now c.self.invariant.0
          (omega (arith, c.if-at-len.true, c.len.ensures)) c.index.ensures c.if-index-number.true c.self.invariant.1),
      subst (AreCodesListed c.self.inside.swept c.change.new.self) (sym c.remove-gone.ensures.items)
          (moved_out c.self.inside.swept c.self.inside.codes c.change.new.self c.self.inside.places.items c.place_of-at.result c.args.number c.index.result.now
          c.self.invariant.2
          (place_pairs c.self.inside.places.items c.self.inside.doors.items c.self.inside.doors_below c.self.invariant.0)
          (omega (arith, c.if-at-len.true, c.len.ensures)) c.index.ensures c.if-index-number.true
          (record { kept = c.change.ensures.kept; only = c.change.ensures.only; own = c.change.ensures.own; listed = c.change.ensures.listed })),
    )

pub returns-then-index-number-clause-rows : goal.returns-then-index-number-clause-rows
returns-then-index-number-clause-rows c =
    let held = place_removed c.self.inside.places.items c.self.inside.doors.items c.self.inside.doors_below c.place_of-at.result c.args.number
    c.index.result.now c.self.invariant.0 (omega (arith, c.if-at-len.true, c.len.ensures)) c.index.ensures c.if-index-number.true in
    ap (map grant_in) c.remove-gone.ensures.items ∙ held.0 ∙ ap (drop_grant c.args.number) (ap (λ (s : StoredGrants). s.rows) c.self.view_is)

pub returns-else-at-len-clause-rows : goal.returns-else-at-len-clause-rows
returns-else-at-len-clause-rows c =
    none_removed c.as_slice.result.now c.self.inside.places.items c.self.inside.doors.items c.self.inside.doors_below c.args.self.now.rows c.place_of-at.result
    c.args.number c.as_slice.ensures.value (ap (λ (s : StoredGrants). s.rows) c.self.view_is) c.self.invariant.0 c.place_of-at.ensures
    (λ old inside is mine. elim c.else-at-len.branch [
      | else-at-len-via-then-at-len+else-index-number w ↦ w.if-index-number.false
          (ap (λ (p : GrantPlace). p.number) (same_place c.self.inside.places.items c.place_of-at.result w.index.result.now old inside w.index.ensures is)
          ∙ mine)
      | else-at-len-via-else-at-len w ↦ omega (arith, w.if-at-len.false, c.len.ensures, inside)
    ])
