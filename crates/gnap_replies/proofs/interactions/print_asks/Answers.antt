use Rattle.std.proofs.Common.{map}
use Rattle.gnap_replies.specs.Interactions.{ask_data}
use Rattle.gnap_replies.proofs.Printing.{has_array}
use Rattle.gnap_replies.proofs.interactions.print_asks.Goals as goal

pub returns : goal.returns
returns c p printed = has_array c.end.new.self p (map ask_data c.args.asks.now)
    (c.end.ensures _ (c.print_each_ask.ensures _ (c.begin.ensures p printed)))
