use Rattle.introspection_cache.proofs.Chains.{fresh_is_silent_law}
use Rattle.introspection_cache.proofs.laws.fresh_is_silent.Goals as goal

pub returns : goal.returns
returns c = fresh_is_silent_law
