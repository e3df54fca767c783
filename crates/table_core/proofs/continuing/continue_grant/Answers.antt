use Rattle.std.proofs.Common.{◌≡◌, Some, rules}
use Rattle.gnap_model.specs.Common.{same_text}
use Rattle.gnap_tables.specs.declared.rows.GrantRow.{GrantRow}
use Rattle.gnap_tables.specs.RowSearches.{row_by_door}
use Rattle.grant_states.proofs.Items.{item_all, found_in}
use Rattle.table_core.specs.CallEffects.{HasFewAsked}
use Rattle.table_core.specs.Entries.{tables}
use Rattle.table_core.proofs.continuing.continue_grant.Goals as goal

pub continue_row-requires : goal.continue_row-requires
continue_row-requires c =
    let rows = (tables c.args.entering.now).grants in
    let row = c.in-Some.row.now in
    let found : row_by_door c.args.value.now rows ≡ Some row = search rules in
    item_all HasFewAsked rows row c.requires (found_in (λ (other : GrantRow). same_text other.door c.args.value.now) rows row found).0
