use Rattle.std.proofs.Common.{length, ◌∙◌, ap}
use Rattle.gnap_tables.specs.declared.rows.TokenRow.{TokenRow}
use Rattle.gnap_tables.specs.RowSearches.{live_rows}
use Rattle.token_manager.proofs.TokenLemmas.{lasting_live, limit_moved}
use Rattle.token_manager.proofs.token_table.TokenTable.passes_limit_with.Goals as goal

pub returns : goal.returns
returns c = limit_moved c.lasting_at.result (length (live_rows c.args.now c.args.grants.now.rows c.args.self.now.rows)) c.args.more
    (c.lasting_at.ensures ∙ ap (length {A = TokenRow}) (lasting_live c.args.now c.args.grants.now.rows c.args.self.now.rows c.requires.approved))
    c.requires.more
