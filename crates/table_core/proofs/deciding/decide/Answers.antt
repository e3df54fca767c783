use Rattle.std.proofs.Common.{Some, ap, rules}
use Rattle.gnap_model.specs.Common.{same_text}
use Rattle.table_core.specs.Entries.{tables}
use Rattle.table_core.specs.Fronts.{interaction_of, take_decision}
use Rattle.table_core.proofs.FoundInteractions.{found_from}
use Rattle.table_core.proofs.PlanLemmas.{plans_as}
use Rattle.table_core.proofs.deciding.decide.Goals as goal

pub returns-in-Some : goal.returns-in-Some
returns-in-Some c =
    let entering = c.args.entering.now in
    let row = c.in-Some.row.now in
    plans_as entering c.decide_row.result (take_decision c.args.request.now (interaction_of row)) _
    (ap (take_decision c.args.request.now)
    (found_from (λ round. same_text round.handle c.args.request.now.handle) entering.supply.moment (tables entering).grants (Some row) (search rules)))
    c.decide_row.ensures
