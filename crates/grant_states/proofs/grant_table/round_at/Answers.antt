use Rattle.std.proofs.Common.{◌∙◌, ap}
use Rattle.std.specs.Option.{option_and_then}
use Rattle.gnap_tables.specs.declared.rows.GrantRow.{GrantRow}
use Rattle.grant_states.specs.Grants.{place_numbered}
use Rattle.grant_states.proofs.NamedRounds.{numbered_at, round_in}
use Rattle.grant_states.proofs.grant_table.round_at.Goals as goal

pub returns : goal.returns
returns c =
    c.round_of.ensures ∙ ap (option_and_then (λ (row : GrantRow). row.round))
    (c.numbered.ensures ∙ numbered_at c.args.places.now c.place_of.result c.args.number c.requires c.place_of.ensures)
    ∙ round_in (place_numbered c.args.number c.args.places.now)
