-- The items of an array.
use Rattle.std.proofs.Common.{◌≡◌, ◌∙◌, ℕ, ◌+◌, ◌<◌, ◌≤◌, List, ◌∷◌, length, drop, get_or, suc, add-one, false, Some, ap, sym, arith}
use Rattle.std.proofs.Math.Seq.{drop-cons}
use Rattle.std.proofs.lemmas.Bool.{or_parts}
use Rattle.serde_json.specs.Data.{Data, null, boolean, number, string, array, object, Items, no_items, item, items_depth}
use Rattle.serde_json.specs.Find.{as_array}
use Rattle.serde_json.specs.Read.{max_depth}
use Rattle.serde_json.specs.Written.{has_float, items_have_float}
use Rattle.serde_json.specs.View.{view, items_view}
use Rattle.serde_json.specs.declared.value.Value.{Value}
use Rattle.json_objects.specs.Bodies.{IsBody}
use Rattle.json_objects.specs.Bodies.{AreBodies}

items_bodies : (ds : Items) → items_have_float ds ≡ false → items_depth ds ≤ max_depth → AreBodies ds
items_bodies no_items p q = tt
items_bodies (item d ds) p q =
    let h = or_parts (has_float d) _ p in
    (record { whole = h.0; shallow = omega arith }, items_bodies ds h.1 (omega arith))

pub array_bodies : (d : Data) (ds : Items) → IsBody d → as_array d ≡ Some ds → AreBodies ds
array_bodies null ds h e = cc
array_bodies (boolean b) ds h e = cc
array_bodies (number x) ds h e = cc
array_bodies (string s) ds h e = cc
array_bodies (array es) ds h e = let same : es ≡ ds = cc in rw (← same) (items_bodies es h.whole (omega (arith, h.shallow)))
array_bodies (object ms) ds h e = cc

-- the items from a place on begin with the item at it
pub items_view-drop : (values : List Value) (i : ℕ) (x : Value) → i < length values → x ≡ get_or values i x
    → items_view (drop i values) ≡ item (view x) (items_view (drop (i + 1) values))
items_view-drop values i x within is =
    ap items_view (drop-cons values i x within ∙ ap (λ y. y ∷ drop (suc i) values) (sym is))
    ∙ ap (λ j. item (view x) (items_view (drop j values))) (sym (add-one i))
