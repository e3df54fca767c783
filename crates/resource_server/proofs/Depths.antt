-- A member nests less deep than its object, so that an array of it alone may be a body.
use Rattle.std.proofs.Common.{◌≡◌, ◌≤◌, ◌+◌, ℕ, List, false, Option, Some, None, Ok, arith, refl, subst}
use Rattle.std.specs.Prelude.{IfSome}
use Rattle.serde_json.specs.Data.{Data, array, item, no_items, depth}
use Rattle.serde_json.specs.Find.{get}
use Rattle.serde_json.specs.Written.{has_float}
use Rattle.json_objects.specs.Bodies.{IsBody}
use Rattle.json_objects.proofs.Depths.{member_deeper}
use Rattle.gnap_objects.specs.declared.fault.ObjectFault.TheVariants as faults
use Rattle.json_objects.specs.Reading.{or_fault}
use Rattle.gnap_objects.specs.Reading.{required}

there : (k : List ℕ) (o : Option Data) (e : Data) → or_fault (faults.Missing k) o ≡ Ok e → o ≡ Some e
there k None e is = absurd (cc)
there k (Some d) e is = cc

pub alone_body : (k : List ℕ) (d e a : Data) → IsBody d → required k d ≡ Ok e → has_float e ≡ false → a ≡ array (item e no_items) → IsBody a
alone_body k d e a body found whole is =
    let less : depth e + 1 ≤ depth d = subst (λ (o : Option Data). IfSome o (λ x. depth x + 1 ≤ depth d)) (there k (get k d) e found) (member_deeper k d) in
    rw is record { whole = rw whole refl; shallow = omega (arith, body.shallow) }
