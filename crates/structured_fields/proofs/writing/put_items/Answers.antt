use Rattle.std.proofs.Common.{◌∷◌, [], append_assoc}
use Rattle.structured_fields.specs.Canonical.{item_text}
use Rattle.structured_fields.proofs.Written.{separated_more}
use Rattle.structured_fields.proofs.writing.put_items.Goals as goal

pub loop-i-preserved : goal.loop-i-preserved
loop-i-preserved c = let m = separated_more (32 ∷ []) item_text c.args.items.now c.loop-i.i c.at.result.now c.at.ensures in
    rw (m, c.in_ok-put_item.ensures, c.in_ok-put_between.ensures, c.loop-i.invariant) (simp append_assoc)
