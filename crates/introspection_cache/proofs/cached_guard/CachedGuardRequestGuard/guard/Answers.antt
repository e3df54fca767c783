use Rattle.introspection_cache.proofs.Putting.{cached_fault_rose}
use Rattle.introspection_cache.proofs.cached_guard.CachedGuardRequestGuard.guard.Goals as goal

pub returns-clause-cause : goal.returns-clause-cause
returns-clause-cause g c = λ is. cached_fault_rose c.args.setup.now c.args.message.now c.args.now _ _ _ _ c.first_answer.result
    c.first_answer.ensures.guards is
