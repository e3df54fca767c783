use Rattle.std.proofs.Common.{◌≡◌, drop}
use Rattle.content_digest.specs.Digest.{are_sequences}
use Rattle.content_digest.proofs.checking.are_sequences.Given as goal

abbrev pub invariant-loop-i : goal.invariant-loop-i
invariant-loop-i l = are_sequences (drop l.i l.members) ≡ are_sequences l.members
