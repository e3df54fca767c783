use Rattle.std.proofs.Common.{◌≡◌, ◌++◌, replicate}
use Rattle.kept_rights.proofs.lengths.put_length.Given as goal

abbrev pub invariant-loop : goal.invariant-loop
invariant-loop l = l.bytes ≡ l.fn.bytes ++ replicate l.counter 255
