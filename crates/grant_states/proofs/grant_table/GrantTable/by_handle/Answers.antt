use Rattle.std.proofs.Common.{ap}
use Rattle.std.specs.Prelude.{option_map}
use Rattle.std.proofs.lemmas.Slice.Eq.{bytes_eq-Decides}
use Rattle.grant_states.specs.declared.interactions.InteractionName.TheVariants.{Handle}
use Rattle.grant_states.specs.Grants.{StoredGrants}
use Rattle.grant_states.proofs.GrantLemmas.{ascending_places}
use Rattle.grant_states.proofs.NamedRounds.{handle_finds, interaction_latest}
use Rattle.grant_states.proofs.grant_table.GrantTable.by_handle.Goals as goal

pub last_open-requires : goal.last_open-requires
last_open-requires c = ascending_places c.as_slice.result.now c.self.inside.places.items c.self.inside.doors.items c.self.inside.doors_below
    c.as_slice.ensures.value c.self.invariant.0

pub returns : goal.returns
returns c =
    interaction_latest c.as_slice.result.now c.self.inside.places.items c.self.inside.doors.items c.self.inside.doors_below c.args.self.now.rows
    c.of-listed.result.now (Handle c.args.handle) c.args.now (option_map (λ row. row.now) c.last_open.result)
    c.as_slice.ensures.value (ap (λ (s : StoredGrants). s.rows) c.self.view_is) c.self.invariant.0
    (handle_finds c.self.inside.handles.listed c.of-listed.result.now c.self.inside.places.items (Handle c.args.handle) c.args.handle.now c.handle_key.result
    c.args.now c.self.invariant.1
    (λ round e. (bytes_eq-Decides round.handle c.args.handle.now).0 e) c.handle_key.ensures c.of-listed.ensures) c.last_open.ensures
