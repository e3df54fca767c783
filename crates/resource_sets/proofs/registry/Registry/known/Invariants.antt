use Rattle.resource_sets.proofs.Places.{IsAtNone}
use Rattle.resource_sets.proofs.registry.Registry.known.Given as goal

abbrev pub invariant-loop-one : goal.invariant-loop-one
invariant-loop-one l = IsAtNone l.server l.rights l.self l.one-items l.one-index
