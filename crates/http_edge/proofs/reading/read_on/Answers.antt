use Rattle.http_edge.proofs.Outcomes.{waiting_open}
use Rattle.http_edge.proofs.reading.read_on.Goals as goal

pub returns-in-UpTo-clause-open : goal.returns-in-UpTo-clause-open
returns-in-UpTo-clause-open g c = waiting_open c.args.held.now c.args.want c.requires
