use Rattle.std.proofs.Common.{◌∙◌, sym, ap, subst}
use Rattle.std.specs.List.{AllByRecursion}
use Rattle.json_objects.specs.Bodies.{AreBodies}
use Rattle.json_objects.specs.Reading.{each}
use Rattle.json_objects.proofs.Items.{items_view-drop}
use Rattle.json_objects.proofs.Loops.{with_front}
use Rattle.access_rights.specs.Fits.{Fits}
use Rattle.access_rights.specs.Reading.{right_of}
use Rattle.access_rights.proofs.OneMore.{each_more, all_more}
use Rattle.access_rights.proofs.reading.each_right.Goals as goal

pub loop-item-preserved : goal.loop-item-preserved
loop-item-preserved c =
    let rights = c.loop-item.rights in
    let read = c.in_ok-right_of.ensures in
    let added = c.in_ok-push.ensures.ok in
    let first = items_view-drop c.deref-item-items.result.now c.loop-item.item-index c.item-item.result c.loop-item-test.true c.item-item.is in
    record {
      read = each_more right_of rights _ _ _ _ read.value added ∙ ap (λ ds. with_front rights (each right_of ds)) (sym first) ∙ c.loop-item.invariant.read;
      bodies = (subst AreBodies first c.loop-item.invariant.bodies).1;
      fits = subst (AllByRecursion Fits) (sym added) (all_more Fits rights _ c.loop-item.invariant.fits read.fits);
    }
