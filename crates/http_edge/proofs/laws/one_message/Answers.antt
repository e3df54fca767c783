use Rattle.http_edge.proofs.Outcomes.{message_one}
use Rattle.http_edge.proofs.laws.one_message.Goals as goal

pub returns : goal.returns
returns c = message_one
