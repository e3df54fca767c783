use Rattle.std.proofs.Common.{◌∙◌, ap, sym}
use Rattle.std.specs.Prelude.{option_map}
use Rattle.gnap_tables.specs.RowSearches.{Interaction, interaction_where, newest}
use Rattle.grant_states.specs.declared.interactions.InteractionName.{InteractionName}
use Rattle.grant_states.specs.Interactions.{goes_by}
use Rattle.grant_states.proofs.grant_table.GrantTable.by_interaction.Goals as goal

pub returns-in-Handle : goal.returns-in-Handle
returns-in-Handle c =
    c.by_handle.ensures ∙ ap (λ (n : InteractionName). option_map (λ (i : Interaction). i.row)
    (newest (interaction_where (goes_by n) c.args.now) c.args.self.now.rows)) (sym c.in-Handle.is)

pub returns-in-Code : goal.returns-in-Code
returns-in-Code c =
    c.by_code.ensures ∙ ap (λ (n : InteractionName). option_map (λ (i : Interaction). i.row)
    (newest (interaction_where (goes_by n) c.args.now) c.args.self.now.rows)) (sym c.in-Code.is)
