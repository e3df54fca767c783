use Rattle.std.proofs.Common.{◌≡◌, ◌++◌, map, drop}
use Rattle.test_adding.proofs.serve.counts.Given as goal

abbrev pub invariant-loop-one : goal.invariant-loop-one
invariant-loop-one l = l.counts.items ++ map (λ s. s.made.answered) (drop l.one-index l.served) ≡ map (λ s. s.made.answered) l.served
