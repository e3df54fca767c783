use Rattle.std.proofs.Common.{◌∙◌, sym, ap, subst}
use Rattle.std.specs.List.{AllByRecursion}
use Rattle.std.specs.Str.{IsUtf8}
use Rattle.json_objects.specs.Reading.{each}
use Rattle.json_objects.proofs.Items.{items_view-drop}
use Rattle.json_objects.proofs.Loops.{with_front}
use Rattle.access_rights.proofs.OneMore.{each_more, all_more}
use Rattle.gnap_objects.specs.Reading.{text_of}
use Rattle.gnap_objects.proofs.setups.strings_of.Goals as goal

pub loop-item-preserved : goal.loop-item-preserved
loop-item-preserved c =
    let name = c.args.name.now in
    let texts = c.loop-item.texts in
    let read = c.in_ok-text_of.ensures in
    let added = c.in_ok-push.ensures.ok in
    let first = items_view-drop c.deref-item-items.result.now c.loop-item.item-index c.item-item.result c.loop-item-test.true c.item-item.is in
    record {
      read = each_more (text_of name) texts _ _ _ _ read.value added
          ∙ ap (λ ds. with_front texts (each (text_of name) ds)) (sym first)
          ∙ c.loop-item.invariant.read;
      utf8 = subst (AllByRecursion IsUtf8) (sym added) (all_more IsUtf8 texts _ c.loop-item.invariant.utf8 read.utf8);
    }
