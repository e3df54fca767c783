use Rattle.std.proofs.Common.{◌∙◌, ap}
use Rattle.grant_states.specs.Grants.{StoredGrants}
use Rattle.grant_states.proofs.GrantLemmas.{ascending_places, number_found}
use Rattle.grant_states.proofs.grant_table.GrantTable.by_number.Goals as goal

pub place_of-at-requires : goal.place_of-at-requires
place_of-at-requires c = ascending_places c.as_slice-places.result.now c.self.inside.places.items c.self.inside.doors.items c.self.inside.doors_below
    c.as_slice-places.ensures.value c.self.invariant.0

pub returns : goal.returns
returns c = c.numbered.ensures ∙ number_found c.as_slice-places.result.now c.self.inside.places.items c.self.inside.doors.items c.self.inside.doors_below
    c.args.self.now.rows c.place_of-at.result c.args.number c.as_slice-places.ensures.value (ap (λ (s : StoredGrants). s.rows) c.self.view_is)
    c.self.invariant.0 c.place_of-at.ensures
