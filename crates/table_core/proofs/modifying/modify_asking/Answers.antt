use Rattle.table_core.proofs.ModifyingPlans.{asked_anew}
use Rattle.table_core.proofs.modifying.modify_asking.Goals as goal

pub returns : goal.returns
returns c =
    let asking = c.in_ok-asking.asking in
    let asked = c.in_ok-asking.ensures in
    asked_anew c.args.entering.now c.args.row.now c.args.request.now c.args.modes.now asking.reply asking.drawn c.in_ok-terms.terms asking.round
    c.value-door.result c.len-rows.ensures.ordered c.in_ok-terms.ensures asked.round asked.reply asked.drawn c.value-door.ensures
