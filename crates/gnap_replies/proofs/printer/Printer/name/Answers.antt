use Rattle.std.proofs.Common.{false, ap, subst}
use Rattle.std.proofs.lemmas.Result.{IfOk-weaker}
use Rattle.gnap_replies.specs.Printing.{Printed, HasPrinted}
use Rattle.gnap_replies.proofs.Printing.{colon_behind}
use Rattle.gnap_replies.proofs.printer.Printer.name.Goals as goal

pub returns-then-is_plain : goal.returns-then-is_plain
returns-then-is_plain c p printed =
    let bare = IfOk-weaker c.plain_pair.new.self.text _ _ (λ t e. ap (λ (q : Printed). (q.0, false)) e) (c.plain_pair.ensures p printed) in
    subst (HasPrinted c.begin.new.self) (colon_behind p c.args.name.now _ c.as_bytes-then-is_plain.ensures.value) (c.begin.ensures _ bare)
