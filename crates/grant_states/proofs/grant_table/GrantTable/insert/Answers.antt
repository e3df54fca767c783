use Rattle.std.proofs.Common.{ap, sym, subst, ◌≡◌, ◌∙◌, ◌<◌, ◌+◌, ◌≤◌, ◌++◌, ◌∷◌, [], List, arith}
use Rattle.std.specs.List.{All}
use Rattle.std.specs.Prelude.{IfSome}
use Rattle.gnap_tables.specs.declared.rows.GrantRow.{GrantRow}
use Rattle.grant_states.specs.declared.grant_table.GrantPlace.{GrantPlace}
use Rattle.grant_states.specs.declared.numbers_by_key.Listed.{Listed}
use Rattle.grant_states.specs.OpenCodes.{open_code}
use Rattle.grant_states.specs.Grants.{StoredGrants, AreCodesListed, AreGrantPlaces, AreHandlesListed, IsHandleListed, code_at}
use Rattle.grant_states.proofs.GrantLemmas.{place_pushed}
use Rattle.grant_states.proofs.NamedRounds.{named_pushed, still_listed, IsNamed}
use Rattle.grant_states.proofs.OpenRounds.{AreMoved, moved_in, none_yet, numbers_low}
use Rattle.grant_states.proofs.grant_table.GrantTable.insert.Goals as goal

pub change-requires-clause-own : goal.change-requires-clause-own
change-requires-clause-own c =
    none_yet c.self.inside.swept c.self.inside.codes c.self.inside.places.items c.deref.result.now.number c.self.invariant.2
    (numbers_low c.self.inside.places.items c.self.inside.doors.items c.self.inside.doors_below c.deref.result.now.number c.args.self.now.rows
    (ap (λ (s : StoredGrants). s.rows) c.self.view_is) c.self.invariant.0
    (subst (λ (r : GrantRow). All (λ (other : GrantRow). other.number < r.number) c.args.self.now.rows) (sym c.deref.ensures) c.requires.above))

pub invariant_of-self : goal.invariant_of-self
invariant_of-self c =
    let e = ap (λ (s : StoredGrants). s.doors_below) c.self.view_is in
    let low : c.self.inside.doors_below ≤ c.args.serial = omega (arith, e, c.requires.fresh) in
    let new : GrantPlace = record { number = c.deref.result.now.number; door_serial = c.args.serial; row = c.args.row } in
    let held = place_pushed c.self.inside.places.items c.self.inside.doors.items c.self.inside.doors_below new c.self.invariant.0 low
    (ap (λ (r : GrantRow). r.number) c.deref.ensures) (omega (arith, c.requires.small)) c.requires.door
    (subst (λ (rs : List GrantRow). All (λ (other : GrantRow). other.number < c.args.row.value.number) rs)
    (sym (ap (λ (s : StoredGrants). s.rows) c.self.view_is)) c.requires.above) in
    let handles : List Listed = c.list_handle.new.handles.listed in
    let listed : IsNamed handles new = subst (λ (row : GrantRow). IfSome row.round (IsHandleListed handles c.deref.result.now.number)) c.as_ref.ensures
    c.list_handle.ensures.listed in
    let named = named_pushed handles c.self.inside.places.items new
    (still_listed c.self.inside.handles.listed handles c.self.inside.places.items c.list_handle.ensures.kept c.self.invariant.1) listed in
    let low = numbers_low c.self.inside.places.items c.self.inside.doors.items c.self.inside.doors_below c.deref.result.now.number c.args.self.now.rows
    (ap (λ (s : StoredGrants). s.rows) c.self.view_is) c.self.invariant.0
    (subst (λ (r : GrantRow). All (λ (other : GrantRow). other.number < r.number) c.args.self.now.rows) (sym c.deref.ensures) c.requires.above) in
    let coded : c.open_code-code.result ≡ code_at c.self.inside.swept new = c.open_code-code.ensures
    ∙ ap (λ (r : GrantRow). open_code c.self.inside.swept r.round) c.as_ref-2.ensures in
    let moves : AreMoved c.self.inside.codes c.change.new.self new.number c.open_code-code.result = record {
      kept = c.change.ensures.kept;
      only = c.change.ensures.only;
      own = c.change.ensures.own;
      listed = c.change.ensures.listed;
    } in (
      subst (λ (ps : List GrantPlace). AreGrantPlaces ps c.push_reserved.new.self.items (c.args.serial + 1)) (sym c.push_reserved-2.ensures.items)
          (subst (λ (ds : List Listed). AreGrantPlaces (c.self.inside.places.items ++ new ∷ []) ds (c.args.serial + 1)) (sym c.push_reserved.ensures.items)
          held.1),
      subst (AreHandlesListed handles) (sym c.push_reserved-2.ensures.items) named,
      subst (AreCodesListed c.self.inside.swept c.change.new.self) (sym c.push_reserved-2.ensures.items)
          (moved_in c.self.inside.swept c.self.inside.codes c.change.new.self c.self.inside.places.items new c.self.invariant.2 low
          (subst (AreMoved c.self.inside.codes c.change.new.self new.number) coded moves)),
    )
