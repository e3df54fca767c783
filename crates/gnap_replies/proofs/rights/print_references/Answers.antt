use Rattle.std.proofs.Common.{sym, subst, map, take}
use Rattle.access_rights.specs.Fits.{Fits}
use Rattle.access_rights.specs.Printing.{right_data}
use Rattle.serde_json.specs.Written.{compact_text}
use Rattle.gnap_replies.specs.Printing.{is_reference, then_value, then_items, HasPrinted}
use Rattle.gnap_replies.proofs.Printing.{has_next, all_behind, each_behind}
use Rattle.gnap_replies.proofs.rights.print_references.Goals as goal

pub loop-right-preserved : goal.loop-right-preserved
loop-right-preserved c =
    let xs = c.args.rights.now in
    let i = c.loop-right.right-index in
    let x = c.right-item.result in
    let below = c.loop-right-test.true in record {
      printed = λ p printed.
          let text = c.text.ensures _ (c.loop-right.invariant.printed p printed) in
          let shown = then_items p (map right_data (take i xs)) in
          let same = subst (λ r. HasPrinted c.text.new.self (then_value shown (compact_text (right_data r)))) (sym c.in-Reference.is) text in
          has_next c.text.new.self p right_data xs i x below c.right-item.is same;
      references = all_behind is_reference xs i x below c.loop-right.invariant.references;
      fit = each_behind Fits xs i x below c.loop-right.invariant.fit;
    }
