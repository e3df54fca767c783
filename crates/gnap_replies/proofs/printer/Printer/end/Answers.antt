use Rattle.std.proofs.Common.{true, false, ap}
use Rattle.std.proofs.lemmas.Result.{IfOk-weaker}
use Rattle.gnap_replies.specs.Printing.{Printed}
use Rattle.gnap_replies.proofs.Printing.{paired}
use Rattle.gnap_replies.proofs.printer.Printer.end.Goals as goal

pub returns : goal.returns
returns c p printed =
    let bare = IfOk-weaker c.args.self.now.text _ _ (λ t e. ap (λ (q : Printed). (q.0, false)) e) printed in
    paired c.put.new.self.text (λ t. t.items) true _ (c.put.ensures (p.0, false) bare)
