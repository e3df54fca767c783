use Rattle.table_core.proofs.PlanLemmas.{door_renewed}
use Rattle.table_core.proofs.continuing.renew.Goals as goal

pub returns : goal.returns
returns c = door_renewed c.args.entering.now c.args.row.now c.value-door.result c.new.result c.value-door.ensures c.new.ensures
