use Rattle.std.proofs.Common.{◌≡◌, drop}
use Rattle.content_digest.specs.Judged.{first_difference}
use Rattle.content_digest.proofs.checking.compare_all.Given as goal

abbrev pub invariant-loop-i : goal.invariant-loop-i
invariant-loop-i l = first_difference l.body (drop l.i l.members) ≡ first_difference l.body l.members
