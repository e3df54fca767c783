use Rattle.std.proofs.Common.{length, List, ◌∙◌, ap}
use Rattle.gnap_tables.specs.declared.rows.TokenRow.{TokenRow}
use Rattle.gnap_tables.specs.RowSearches.{live_rows}
use Rattle.gnap_tables.specs.ActionsByRows.{rows_of_others}
use Rattle.token_manager.proofs.TokenLemmas.{lasting_live, limit_moved}
use Rattle.token_manager.proofs.token_table.TokenTable.others_pass_limit_with.Goals as goal

pub returns : goal.returns
returns c = limit_moved c.lasting_of_others.result (length (rows_of_others c.args.number (live_rows c.args.now c.args.grants.now.rows c.args.self.now.rows)))
    c.args.more
    (c.lasting_of_others.ensures ∙ ap (λ (rs : List TokenRow). length (rows_of_others c.args.number rs))
    (lasting_live c.args.now c.args.grants.now.rows c.args.self.now.rows c.requires.approved)) c.requires.more
