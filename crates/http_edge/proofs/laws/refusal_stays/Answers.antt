use Rattle.http_edge.proofs.Outcomes.{refusal_law}
use Rattle.http_edge.proofs.laws.refusal_stays.Goals as goal

pub returns : goal.returns
returns c = refusal_law
