use Rattle.introspection_cache.proofs.Chains.{kept_are_few_law}
use Rattle.introspection_cache.proofs.laws.kept_are_few.Goals as goal

pub returns : goal.returns
returns c = kept_are_few_law
