use Rattle.http_edge.proofs.Outcomes.{messages_law}
use Rattle.http_edge.proofs.laws.messages_stay.Goals as goal

pub returns : goal.returns
returns c = messages_law
