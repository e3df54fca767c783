use Rattle.std.proofs.Common.{take, map}
use Rattle.gnap_replies.specs.Printing.{Printed, then_items, HasPrinted}
use Rattle.gnap_replies.specs.Interactions.{ask_data}
use Rattle.gnap_replies.proofs.interactions.print_each_ask.Given as goal

abbrev pub invariant-loop-ask : goal.invariant-loop-ask
invariant-loop-ask l = (p : Printed) → HasPrinted l.fn.out p → HasPrinted l.out (then_items p (map ask_data (take l.ask-index l.asks)))
