use Rattle.http_edge.proofs.Fronts.{too_long_refused}
use Rattle.http_edge.proofs.messages.undecided.Goals as goal

pub returns-else-b-lt-HEAD_LIMIT : goal.returns-else-b-lt-HEAD_LIMIT
returns-else-b-lt-HEAD_LIMIT c =
    (too_long_refused c.args.b.now c.args.w.now c.requires.window c.requires.head c.if-b-lt-HEAD_LIMIT.false, tt)
