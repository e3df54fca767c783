use Rattle.std.proofs.lemmas.Result.{IfOk-weaker}
use Rattle.gnap_model.specs.declared.notes.DecisionNote.{DecisionNote}
use Rattle.gnap_tables.specs.RowSearches.{decision_of_row}
use Rattle.table_core.proofs.PlanLemmas.{collected_is}
use Rattle.table_core.proofs.continuing.collect_asks.Goals as goal

pub returns : goal.returns
returns c =
    let entering = c.args.entering.now in
    let row = c.args.row.now in
    let decision : DecisionNote = decision_of_row row.number c.args.decision.now in
    IfOk-weaker c.grant_on.result _ _
    (λ plan made. collected_is entering row decision c.args.asks.now c.in_ok-subject.subject c.in_ok-consent.consent plan c.requires entering.supply.room
    c.in_ok-subject.ensures c.in_ok-consent.ensures made)
    c.grant_on.ensures
