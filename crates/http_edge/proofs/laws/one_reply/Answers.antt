use Rattle.http_edge.proofs.ReplyHeads.{one_reply_law}
use Rattle.http_edge.proofs.laws.one_reply.Goals as goal

pub returns : goal.returns
returns c = one_reply_law
