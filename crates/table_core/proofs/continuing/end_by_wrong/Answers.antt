use Rattle.table_core.proofs.PlanLemmas.{last_wrong_ends}
use Rattle.table_core.proofs.continuing.end_by_wrong.Goals as goal

pub returns : goal.returns
returns c = last_wrong_ends c.args.entering.now c.args.row.now
