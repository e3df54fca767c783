use Rattle.std.proofs.Common.{◌∙◌, ap, sym}
use Rattle.std.specs.Option.{option_and_then}
use Rattle.gnap_model.specs.Common.{same_text, some_if}
use Rattle.gnap_tables.specs.declared.rows.GrantRow.{GrantRow}
use Rattle.grant_states.specs.Grants.{StoredGrants}
use Rattle.grant_states.proofs.GrantLemmas.{ascending_doors, door_found, door_missing, door_unlisted}
use Rattle.grant_states.proofs.grant_table.GrantTable.by_door.Goals as goal

pub place_of-at-requires : goal.place_of-at-requires
place_of-at-requires c = ascending_doors c.as_slice-doors.result.now c.self.inside.doors.items c.self.inside.places.items c.self.inside.doors_below
    c.as_slice-doors.ensures.value c.self.invariant.0

pub returns-in-Some-number_at : goal.returns-in-Some-number_at
returns-in-Some-number_at c =
    c.with_door.ensures ∙ ap (option_and_then (λ (row : GrantRow). some_if (same_text row.door c.args.value.now) row)) c.by_number.ensures
    ∙ door_found c.as_slice-doors.result.now c.self.inside.doors.items c.self.inside.places.items c.self.inside.doors_below c.args.self.now.rows
    c.args.value.now c.place_of-at.result c.in-Some.serial c.in-Some-number_at.number
    c.as_slice-doors.ensures.value (ap (λ (s : StoredGrants). s.rows) c.self.view_is) c.self.invariant.0 c.in-Some.ensures.drawn c.place_of-at.ensures
    (sym c.in-Some-number_at.is ∙ c.number_at.ensures)

pub returns-in-None-number_at : goal.returns-in-None-number_at
returns-in-None-number_at c =
    door_unlisted c.as_slice-doors.result.now c.self.inside.doors.items c.self.inside.places.items c.self.inside.doors_below c.args.self.now.rows
    c.args.value.now c.place_of-at.result c.in-Some.serial
    c.as_slice-doors.ensures.value (ap (λ (s : StoredGrants). s.rows) c.self.view_is) c.self.invariant.0 c.in-Some.ensures.drawn c.place_of-at.ensures
    (sym c.in-None-number_at.is ∙ c.number_at.ensures)

pub returns-in-None : goal.returns-in-None
returns-in-None c = door_missing c.self.inside.places.items c.self.inside.doors.items c.self.inside.doors_below c.args.self.now.rows c.args.value.now
    (ap (λ (s : StoredGrants). s.rows) c.self.view_is) c.self.invariant.0 c.in-None.ensures.drawn
