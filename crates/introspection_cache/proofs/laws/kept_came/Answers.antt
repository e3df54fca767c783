use Rattle.introspection_cache.proofs.Chains.{kept_came_law}
use Rattle.introspection_cache.proofs.laws.kept_came.Goals as goal

pub returns : goal.returns
returns c = kept_came_law
