use Rattle.gnap_replies.specs.Interactions.{ask_data}
use Rattle.gnap_replies.proofs.Printing.{has_next}
use Rattle.gnap_replies.proofs.interactions.print_each_ask.Goals as goal

pub loop-ask-preserved : goal.loop-ask-preserved
loop-ask-preserved c p printed = has_next c.print_ask.new.out p ask_data c.args.asks.now c.loop-ask.ask-index c.ask-item.result
    c.loop-ask-test.true c.ask-item.is (c.print_ask.ensures _ (c.loop-ask.invariant p printed))
