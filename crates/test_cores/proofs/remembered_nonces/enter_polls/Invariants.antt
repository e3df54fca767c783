use Rattle.test_cores.specs.Taken.{HasTaken}
use Rattle.test_cores.proofs.remembered_nonces.enter_polls.Given as goal

abbrev pub invariant-loop-taken : goal.invariant-loop-taken
invariant-loop-taken g l = HasTaken (g.C.Core.stands l.core) l.taken
