use Rattle.std.proofs.Common.{◌∙◌, sym, ap, subst}
use Rattle.json_objects.specs.Bodies.{AreBodies}
use Rattle.json_objects.specs.Reading.{each}
use Rattle.json_objects.proofs.Items.{items_view-drop}
use Rattle.json_objects.proofs.Loops.{with_front}
use Rattle.access_rights.proofs.OneMore.{each_more}
use Rattle.reply_readers.specs.Grants.{token_of}
use Rattle.reply_readers.proofs.tokens.tokens_from.Goals as goal

pub loop-item-preserved : goal.loop-item-preserved
loop-item-preserved c =
    let tokens = c.loop-item.tokens in
    let first = items_view-drop c.deref-item-items.result.now c.loop-item.item-index c.item-item.result c.loop-item-test.true c.item-item.is in
    record {
      read = each_more token_of tokens _ _ _ _ c.in_ok-token_of.ensures c.in_ok-push.ensures.ok
          ∙ ap (λ ds. with_front tokens (each token_of ds)) (sym first)
          ∙ c.loop-item.invariant.read;
      bodies = (subst AreBodies first c.loop-item.invariant.bodies).1;
    }
