use Rattle.rs_edge.proofs.CachedTurns.{turns_mean}
use Rattle.rs_edge.proofs.laws.cached_turns_mean.Goals as goal

pub returns : goal.returns
returns c = turns_mean
