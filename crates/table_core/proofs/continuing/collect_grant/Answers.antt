use Rattle.std.proofs.Common.{◌≡◌, ◌∙◌, List, false, length, ap, refl, sym}
use Rattle.gnap_model.specs.Actions.Action.{CollectDecision}
use Rattle.gnap_model.specs.Continue.{decided_asks}
use Rattle.gnap_model.specs.declared.objects.Ask.{Ask}
use Rattle.gnap_model.specs.declared.notes.DecisionNote.{DecisionNote}
use Rattle.gnap_tables.specs.RowSearches.{opening_of, terms_of_row, decision_of_row, live_rows}
use Rattle.gnap_tables.specs.ActionsByRows.{pass_live}
use Rattle.table_core.specs.Entries.{tables}
use Rattle.table_core.proofs.PlanLemmas.{plans_as}
use Rattle.table_core.proofs.continuing.collect_grant.Goals as goal

pub returns : goal.returns
returns c =
    let entering = c.args.entering.now in
    let row = c.args.row.now in
    let decision : DecisionNote = decision_of_row row.number c.args.decision.now in
    let asks : List Ask = decided_asks decision.rights (terms_of_row row) in
    let counted : c.len.result ≡ length asks = c.len.ensures ∙ ap length c.in_ok-asks.ensures.asks in
    let live = live_rows entering.supply.moment (tables entering).grants (tables entering).tokens in
    let within : pass_live live (length asks) ≡ false = ap (pass_live live) (sym counted) ∙ sym c.passes_limit_with.ensures ∙ c.if-passes_limit_with.false in
    plans_as entering c.collect_asks.result (CollectDecision (opening_of row) (terms_of_row row) decision c.as_slice.result.now) _
    (ap (λ (given : List Ask). CollectDecision (opening_of row) (terms_of_row row) decision given) (c.as_slice.ensures ∙ c.in_ok-asks.ensures.asks)
    ∙ rw within refl)
    c.collect_asks.ensures
