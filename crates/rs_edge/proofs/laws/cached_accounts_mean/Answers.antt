use Rattle.rs_edge.proofs.CachedTurns.{accounts_mean}
use Rattle.rs_edge.proofs.laws.cached_accounts_mean.Goals as goal

pub returns : goal.returns
returns c = accounts_mean
