use Rattle.gnap_replies.specs.Tokens.{token_data}
use Rattle.gnap_replies.proofs.Printing.{has_next}
use Rattle.gnap_replies.proofs.tokens.print_each_token.Goals as goal

pub loop-token-preserved : goal.loop-token-preserved
loop-token-preserved c p printed = has_next c.print_token.new.out p (token_data c.args.base.now) c.args.tokens.now c.loop-token.token-index
    c.token-item.result
    c.loop-token-test.true c.token-item.is (c.print_token.ensures _ (c.loop-token.invariant p printed))
