use Rattle.http_edge.proofs.Outcomes.{outcomes_law}
use Rattle.http_edge.proofs.laws.outcomes_differ.Goals as goal

pub returns : goal.returns
returns c = outcomes_law
