use Rattle.std.proofs.Common.{◌≡◌, drop}
use Rattle.content_digest.specs.Digest.{has_known}
use Rattle.content_digest.proofs.checking.has_known.Given as goal

abbrev pub invariant-loop-i : goal.invariant-loop-i
invariant-loop-i l = has_known (drop l.i l.members) ≡ has_known l.members
