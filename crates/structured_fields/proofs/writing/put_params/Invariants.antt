use Rattle.std.proofs.Common.{◌≡◌, ◌++◌, take}
use Rattle.structured_fields.specs.Canonical.{params_text}
use Rattle.structured_fields.proofs.writing.put_params.Given as goal

abbrev pub invariant-loop-i : goal.invariant-loop-i
invariant-loop-i l = l.out ≡ l.fn.out ++ params_text (take l.i l.params)
