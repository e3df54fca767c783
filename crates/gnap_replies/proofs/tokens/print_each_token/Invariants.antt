use Rattle.std.proofs.Common.{take, map}
use Rattle.gnap_replies.specs.Printing.{Printed, then_items, HasPrinted}
use Rattle.gnap_replies.specs.Tokens.{token_data}
use Rattle.gnap_replies.proofs.tokens.print_each_token.Given as goal

abbrev pub invariant-loop-token : goal.invariant-loop-token
invariant-loop-token l = (p : Printed) → HasPrinted l.fn.out p → HasPrinted l.out (then_items p (map (token_data l.base) (take l.token-index l.tokens)))
