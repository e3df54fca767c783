use Rattle.introspection_cache.proofs.Putting.{refused_now}
use Rattle.introspection_cache.proofs.cached_guard.first_answer.Goals as goal

pub returns-in-Err-clause-guards : goal.returns-in-Err-clause-guards
returns-in-Err-clause-guards g c = refused_now c.args.setup.now c.args.message.now c.args.now _ _ c.in-Err.refusal c.in-Err.ensures.refused
