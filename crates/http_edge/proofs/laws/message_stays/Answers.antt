use Rattle.http_edge.proofs.Outcomes.{message_more}
use Rattle.http_edge.proofs.laws.message_stays.Goals as goal

pub returns : goal.returns
returns c = message_more
