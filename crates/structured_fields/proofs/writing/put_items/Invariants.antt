use Rattle.std.proofs.Common.{◌≡◌, ◌++◌, ◌∷◌, [], take}
use Rattle.structured_fields.specs.Canonical.{item_text, separated_text}
use Rattle.structured_fields.proofs.writing.put_items.Given as goal

abbrev pub invariant-loop-i : goal.invariant-loop-i
invariant-loop-i l = l.out ≡ l.fn.out ++ separated_text (32 ∷ []) item_text (take l.i l.items)
