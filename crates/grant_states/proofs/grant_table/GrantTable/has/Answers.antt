use Rattle.std.proofs.Common.{◌∙◌, ap, Option}
use Rattle.std.specs.Prelude.{is_some}
use Rattle.gnap_tables.specs.declared.rows.GrantRow.{GrantRow}
use Rattle.grant_states.proofs.Items.{is_some-map}
use Rattle.grant_states.proofs.GrantLemmas.{has_found}
use Rattle.grant_states.proofs.grant_table.GrantTable.has.Goals as goal

pub returns : goal.returns
returns c = c.is_some.ensures ∙ is_some-map (λ row. row.now) c.by_number.result ∙ ap (λ (o : Option GrantRow). is_some o) c.by_number.ensures
    ∙ has_found c.args.number c.args.self.now.rows
