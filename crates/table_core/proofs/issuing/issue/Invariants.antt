use Rattle.std.proofs.Common.{◌≡◌, ◌*◌, take, map}
use Rattle.gnap_model.specs.Actions.{tokens_for, token_out}
use Rattle.gnap_tables.specs.RowSearches.{opening_of}
use Rattle.gnap_tables.specs.Tables.{new_token}
use Rattle.table_core.specs.Entries.{supply}
use Rattle.table_core.specs.Plans.{rows_in}
use Rattle.table_core.proofs.issuing.issue.Given as goal

abbrev pub invariant-loop-ask : goal.invariant-loop-ask
invariant-loop-ask l =
    let issued = tokens_for (supply l.entering) (opening_of l.row) (take l.ask-index l.asks) 0 in
    record {
      next : l.index ≡ 2 * l.ask-index;
      handed : l.tokens.told ≡ map (token_out l.entering.supply.moment) issued;
      stored : rows_in l.tokens.rows ≡ map new_token issued;
    }
