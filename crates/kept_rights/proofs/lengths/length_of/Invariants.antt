use Rattle.std.proofs.Common.{◌≡◌, drop}
use Rattle.kept_rights.specs.Reading.{length_from, length_at}
use Rattle.kept_rights.proofs.lengths.length_of.Given as goal

abbrev pub invariant-loop-i : goal.invariant-loop-i
invariant-loop-i l = length_from l.n (drop l.i l.bytes) ≡ length_at l.bytes
