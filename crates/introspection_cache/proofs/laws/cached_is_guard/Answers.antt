use Rattle.introspection_cache.proofs.Chains.{cached_is_guard_law}
use Rattle.introspection_cache.proofs.laws.cached_is_guard.Goals as goal

pub returns : goal.returns
returns c = cached_is_guard_law
