use Rattle.table_core.proofs.PlanLemmas.{decided}
use Rattle.table_core.proofs.deciding.hand_in.Goals as goal

pub returns : goal.returns
returns c =
    rw c.in_ok-subject.ensures (decided c.args.entering.now c.args.row.now c.args.round.now c.args.rights c.args.request.now c.in_ok-finish.finish
    c.reference_in.result c.reference_count-drawn.result
    c.in_ok-finish.ensures c.reference_in.ensures c.reference_count-drawn.ensures)
