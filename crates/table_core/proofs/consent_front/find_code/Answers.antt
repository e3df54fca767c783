use Rattle.std.proofs.Common.{Some, ap, rules}
use Rattle.gnap_model.specs.Common.{is_text}
use Rattle.table_core.specs.Entries.{tables}
use Rattle.table_core.specs.Fronts.{interaction_of, show_handle}
use Rattle.table_core.proofs.FoundInteractions.{found_from}
use Rattle.table_core.proofs.PlanLemmas.{plan_as}
use Rattle.table_core.proofs.consent_front.find_code.Goals as goal

pub returns-in-Some : goal.returns-in-Some
returns-in-Some c =
    let entering = c.args.entering.now in
    let row = c.in-Some.row.now in
    plan_as entering c.hand_row.result (show_handle (interaction_of row)) _
    (ap show_handle (found_from (λ round. is_text c.args.code.now round.code) entering.supply.moment (tables entering).grants (Some row) (search rules)))
    c.hand_row.ensures
