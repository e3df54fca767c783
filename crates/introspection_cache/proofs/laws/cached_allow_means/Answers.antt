use Rattle.introspection_cache.proofs.Chains.{cached_allow_means_law}
use Rattle.introspection_cache.proofs.laws.cached_allow_means.Goals as goal

pub returns : goal.returns
returns c = cached_allow_means_law
