use Rattle.std.proofs.Common.{Some, ap, rules}
use Rattle.gnap_model.specs.Common.{same_text}
use Rattle.table_core.specs.Entries.{tables}
use Rattle.table_core.specs.Fronts.{interaction_of, show_round}
use Rattle.table_core.proofs.FoundInteractions.{found_from}
use Rattle.table_core.proofs.PlanLemmas.{plans_as}
use Rattle.table_core.proofs.consent_front.look.Goals as goal

pub returns-in-Some : goal.returns-in-Some
returns-in-Some c =
    let entering = c.args.entering.now in
    let row = c.in-Some.row.now in
    plans_as entering c.show_row.result (show_round (interaction_of row)) _
    (ap show_round (found_from (λ round. same_text round.handle c.args.handle.now) entering.supply.moment (tables entering).grants (Some row) (search rules)))
    c.show_row.ensures
