-- Arrays of two items or more aren't those of one.
use Rattle.std.proofs.Common.{◌≡◌, ◌≤◌, List, [], ◌∷◌, false, length, refl, Some, Err, arith}
use Rattle.serde_json.specs.declared.value.Value.{Value}
use Rattle.serde_json.specs.View.{items_view}
use Rattle.reply_readers.specs.declared.members.FormFault.TheVariants as faults
use Rattle.reply_readers.specs.Members.{is_bearer_only}
use Rattle.reply_readers.specs.Grants.{only_item}

pub not_alone : (vs : List Value) → 2 ≤ length vs → only_item (items_view vs) ≡ Err faults.NotOfForm
not_alone [] more = absurd (omega arith)
not_alone (v ∷ []) more = absurd (omega arith)
not_alone (v ∷ w ∷ vs) more = refl

pub not_bearer : (vs : List Value) → 2 ≤ length vs → is_bearer_only (Some (items_view vs)) ≡ false
not_bearer [] more = absurd (omega arith)
not_bearer (v ∷ []) more = absurd (omega arith)
not_bearer (v ∷ w ∷ vs) more = refl
