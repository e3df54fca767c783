use Rattle.std.proofs.Common.{◌+◌, [], take, refl, arith}
use Rattle.gnap_model.specs.Actions.{token_for, tokens_for, token_out}
use Rattle.grant_rules.proofs.Issuing.{issued_more, made_more}
use Rattle.gnap_tables.specs.RowSearches.{opening_of}
use Rattle.gnap_tables.specs.Tables.{new_token}
use Rattle.table_core.specs.Entries.{supply}
use Rattle.table_core.specs.Plans.{rows_in}
use Rattle.table_core.proofs.issuing.issue.Goals as goal

pub loop-ask-preserved : goal.loop-ask-preserved
loop-ask-preserved c =
    let entering = c.args.entering.now in
    let o = opening_of c.args.row.now in
    let asks = c.args.asks.now in
    let i = c.loop-ask.ask-index in
    let token = token_for (supply entering) o c.ask-item.result c.loop-ask.index in
    let before = tokens_for (supply entering) o (take i asks) 0 in
    let after = tokens_for (supply entering) o (take (i + 1) asks) 0 in
    let more = issued_more (supply entering) o asks i c.loop-ask.index c.ask-item.result token c.loop-ask-test.true c.ask-item.is c.loop-ask.invariant.next
    refl in
    record {
      next = omega arith;
      handed = made_more (token_out entering.supply.moment) before after token [] c.loop-ask.tokens.told c.push.new.self.told _
          more c.loop-ask.invariant.handed refl c.in_ok-push.ensures.told;
      stored = made_more new_token before after token [] (rows_in c.loop-ask.tokens.rows) (rows_in c.push.new.self.rows) _
          more c.loop-ask.invariant.stored refl c.in_ok-push.ensures.rows;
    }
