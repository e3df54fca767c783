use Rattle.std.proofs.Common.{◌≡◌, [], take, fold}
use Rattle.signed_files.specs.Verdicts.{with_key}
use Rattle.signed_files.proofs.verifying.ring_of.Given as goal

abbrev pub invariant-loop-key : goal.invariant-loop-key
invariant-loop-key l = l.ring ≡ fold with_key [] (take l.key-index l.key-items)
