use Rattle.std.proofs.Common.{◌∙◌, ap}
use Rattle.std.specs.Option.{option_and_then}
use Rattle.gnap_model.specs.Common.{some_if}
use Rattle.gnap_tables.specs.declared.rows.GrantRow.{GrantRow}
use Rattle.grant_states.specs.Interactions.{is_open_by}
use Rattle.grant_states.specs.Grants.{place_numbered}
use Rattle.grant_states.proofs.NamedRounds.{numbered_at, open_in}
use Rattle.grant_states.proofs.grant_table.open_at.Goals as goal

pub returns : goal.returns
returns c =
    c.open_by.ensures ∙ ap (option_and_then (λ (row : GrantRow). some_if (is_open_by c.args.name c.args.now row.round) row))
    (c.numbered.ensures ∙ numbered_at c.args.places.now c.place_of.result c.args.number c.requires c.place_of.ensures)
    ∙ open_in c.args.name c.args.now (place_numbered c.args.number c.args.places.now)
