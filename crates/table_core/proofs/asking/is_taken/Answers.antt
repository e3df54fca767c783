use Rattle.std.proofs.Common.{◌∙◌, ap, sym, Option}
use Rattle.std.specs.Prelude.{is_some}
use Rattle.gnap_tables.specs.declared.rows.GrantRow.{GrantRow}
use Rattle.gnap_tables.specs.RowSearches.{Interaction, interaction_where, newest}
use Rattle.gnap_model.specs.Common.{is_text}
use Rattle.gnap_model.specs.declared.notes.RoundNote.{RoundNote}
use Rattle.grant_states.proofs.Items.{is_some-map}
use Rattle.table_core.specs.Entries.{tables}
use Rattle.table_core.proofs.TakenCodes.{code_taken}
use Rattle.table_core.proofs.asking.is_taken.Goals as goal

pub returns : goal.returns
returns c =
    let rows = (tables c.args.entering.now).grants in
    let now = c.args.entering.now.supply.moment in
    c.is_some.ensures ∙ is_some-map (λ row. row.now) c.by_interaction.result ∙ ap (λ (o : Option GrantRow). is_some o) c.by_interaction.ensures
    ∙ sym (is_some-map (λ (i : Interaction). i.row) (newest (interaction_where (λ (round : RoundNote). is_text c.args.code.now round.code) now) rows))
    ∙ code_taken c.args.code.now now rows
