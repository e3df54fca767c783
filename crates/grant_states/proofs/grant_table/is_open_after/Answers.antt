use Rattle.std.proofs.Common.{◌∙◌, ap}
use Rattle.std.specs.Prelude.{is_some}
use Rattle.gnap_tables.specs.declared.rows.GrantRow.{GrantRow}
use Rattle.grant_states.specs.Listed.{where_some}
use Rattle.grant_states.specs.OpenCodes.{open_code}
use Rattle.grant_states.specs.Grants.{place_numbered}
use Rattle.grant_states.proofs.NamedRounds.{numbered_at}
use Rattle.grant_states.proofs.OpenRounds.{code_in}
use Rattle.grant_states.proofs.grant_table.is_open_after.Goals as goal

pub returns : goal.returns
returns c =
    c.has_open_code.ensures
    ∙ ap (where_some (λ (row : GrantRow). is_some (open_code c.args.moment row.round)))
    (c.numbered.ensures ∙ numbered_at c.args.places.now c.place_of.result c.args.number c.requires c.place_of.ensures)
    ∙ code_in c.args.moment (place_numbered c.args.number c.args.places.now)
