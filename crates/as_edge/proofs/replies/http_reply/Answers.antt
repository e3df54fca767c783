use Rattle.as_edge.proofs.Statuses.{printed_used, printed_empty}
use Rattle.as_edge.proofs.replies.http_reply.Goals as goal

pub new-requires-clause-status : goal.new-requires-clause-status
new-requires-clause-status c = printed_used c.args.setup.now c.args.reply.now (c.in_ok-status.status, c.in_ok-status.body) c.in_ok-status.ensures

pub new-requires-clause-no_content : goal.new-requires-clause-no_content
new-requires-clause-no_content c = printed_empty c.args.setup.now c.args.reply.now (c.in_ok-status.status, c.in_ok-status.body) c.in_ok-status.ensures
