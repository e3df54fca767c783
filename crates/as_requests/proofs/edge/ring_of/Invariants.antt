use Rattle.as_requests.proofs.NewKeys.{IsUpTo}
use Rattle.as_requests.proofs.edge.ring_of.Given as goal

abbrev pub invariant-loop-key : goal.invariant-loop-key
invariant-loop-key l = IsUpTo l.setup.keys l.key-index l.ring
