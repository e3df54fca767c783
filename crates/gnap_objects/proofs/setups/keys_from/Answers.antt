use Rattle.std.proofs.Common.{◌≡◌, ◌∙◌, ◌||◌, List, [], ◌∷◌, ◌++◌, Ok, refl, sym, ap, subst}
use Rattle.std.specs.List.{AllByRecursion, list_any}
use Rattle.serde_json.specs.Data.{Data, Items, item}
use Rattle.json_objects.specs.Bodies.{AreBodies}
use Rattle.json_objects.proofs.Items.{items_view-drop}
use Rattle.gnap_model.specs.declared.objects.KeyRow.{KeyRow}
use Rattle.access_rights.proofs.OneMore.{all_more}
use Rattle.gnap_objects.specs.Fits.{KeyFits}
use Rattle.gnap_objects.specs.Setups.{has_id, key_row_of, keys_from}
use Rattle.gnap_objects.proofs.OneMore.{any_more}
use Rattle.gnap_objects.proofs.setups.keys_from.Goals as goal

-- one key more was read
next : (keys more : List KeyRow) (d : Data) (ds : Items) (key : KeyRow) → key_row_of keys d ≡ Ok key → more ≡ keys ++ key ∷ []
    → keys_from more ds ≡ keys_from keys (item d ds)
next keys more d ds key read is = rw (is, read) refl

pub loop-item-preserved : goal.loop-item-preserved
loop-item-preserved c =
    let keys = c.loop-item.keys in
    let key = c.in-Ok.key in
    let added = c.in_ok-push.ensures.ok in
    let first = items_view-drop c.deref-item-items.result.now c.loop-item.item-index c.item-item.result c.loop-item-test.true c.item-item.is in
    record {
      read = next keys _ _ _ key c.in-Ok.ensures.value added ∙ ap (keys_from keys) (sym first) ∙ c.loop-item.invariant.read;
      ids = λ id. c.in-Ok.ensures.ids id
          ∙ ap (λ b. has_id id key || b) (c.loop-item.invariant.ids id)
          ∙ any_more (has_id id) keys key
          ∙ ap (list_any (has_id id)) (sym added);
      bodies = (subst AreBodies first c.loop-item.invariant.bodies).1;
      fits = subst (AllByRecursion KeyFits) (sym added) (all_more KeyFits keys key c.loop-item.invariant.fits c.in-Ok.ensures.fits);
    }
