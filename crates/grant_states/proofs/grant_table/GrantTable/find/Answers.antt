use Rattle.std.proofs.Common.{◌∙◌, ap, arith}
use Rattle.grant_states.specs.Grants.{StoredGrants}
use Rattle.grant_states.proofs.GrantLemmas.{ascending_places, number_found, count_same}
use Rattle.grant_states.proofs.grant_table.GrantTable.find.Goals as goal

pub place-at-requires : goal.place-at-requires
place-at-requires g c = ascending_places c.as_slice-places.result.now c.self.inside.places.items c.self.inside.doors.items c.self.inside.doors_below
    c.as_slice-places.ensures.value c.self.invariant.0

pub returns-clause-row : goal.returns-clause-row
returns-clause-row g c = c.numbered.ensures
    ∙ number_found c.as_slice-places.result.now c.self.inside.places.items c.self.inside.doors.items c.self.inside.doors_below c.args.self.now.rows
    c.place-at.result c.args.number c.as_slice-places.ensures.value (ap (λ (s : StoredGrants). s.rows) c.self.view_is) c.self.invariant.0
    c.place-at.ensures.place

pub returns-clause-cost : goal.returns-clause-cost
returns-clause-cost g c =
    let n = count_same c.as_slice-places.result.now c.self.inside.places.items c.args.self.now.rows c.as_slice-places.ensures.value
    (ap (λ (s : StoredGrants). s.rows) c.self.view_is) in
    omega (arith, n, c.place-at.ensures.cost)
