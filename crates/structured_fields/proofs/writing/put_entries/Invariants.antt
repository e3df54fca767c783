use Rattle.std.proofs.Common.{◌≡◌, ◌++◌, ◌∷◌, [], take}
use Rattle.structured_fields.specs.Canonical.{entry_text, separated_text}
use Rattle.structured_fields.proofs.writing.put_entries.Given as goal

abbrev pub invariant-loop-i : goal.invariant-loop-i
invariant-loop-i l = l.out ≡ l.fn.out ++ separated_text (44 ∷ 32 ∷ []) entry_text (take l.i l.v)
