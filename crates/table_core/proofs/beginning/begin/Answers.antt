use Rattle.std.proofs.Common.{◌≡◌, [], subst, sym, rules}
use Rattle.std.specs.Prelude.{IfOk}
use Rattle.gnap_model.specs.Judging.{settle}
use Rattle.gnap_model.specs.Judging.Settled.{AtOnce, ByAsking, Never}
use Rattle.gnap_model.specs.declared.notes.OpeningNote.{OpeningNote}
use Rattle.gnap_tables.specs.ActionsByRows.{begin_rows}
use Rattle.table_core.specs.Entries.{tables}
use Rattle.table_core.specs.Plans.{Plans}
use Rattle.table_core.proofs.SettledRequests.{begun_as}
use Rattle.table_core.proofs.PlanLemmas.{plan_as, plans_as}
use Rattle.table_core.proofs.beginning.begin.Goals as goal

pub returns-in-Never : goal.returns-in-Never
returns-in-Never c =
    let entering = c.args.entering.now in
    let is : Never ≡ settle c.args.setup.now c.args.key.now [] c.args.request.now = rw (c.in-Never.is, c.as_slice.ensures.value, c.new.ensures) at
    c.in_ok-settle.ensures in
    plan_as entering c.refused-in-Never.result _ _
    (begun_as c.args.setup.now entering.next (tables entering) entering.supply.moment c.args.key.now c.args.request.now c.args.not_after Never (search rules)
    (search rules) (sym is))
    c.refused-in-Never.ensures

pub returns-in-AtOnce : goal.returns-in-AtOnce
returns-in-AtOnce c =
    let entering = c.args.entering.now in
    let is : AtOnce ≡ settle c.args.setup.now c.args.key.now [] c.args.request.now = rw (c.in-AtOnce.is, c.as_slice.ensures.value, c.new.ensures) at
    c.in_ok-settle.ensures in
    plans_as entering c.begin_at_once.result _ _
    (begun_as c.args.setup.now entering.next (tables entering) entering.supply.moment c.args.key.now c.args.request.now c.args.not_after AtOnce (search rules)
    (search rules) (sym is))
    (subst (λ (o : OpeningNote). IfOk c.begin_at_once.result (Plans entering (begin_rows AtOnce (tables entering) entering.supply.moment o c.args.request.now)))
    c.in_ok-opening-in-AtOnce.ensures c.begin_at_once.ensures)

pub returns : goal.returns
returns c =
    let entering = c.args.entering.now in
    let is : ByAsking ≡ settle c.args.setup.now c.args.key.now [] c.args.request.now = rw (c.in-ByAsking.is, c.as_slice.ensures.value, c.new.ensures) at
    c.in_ok-settle.ensures in
    plans_as entering c.begin_by_asking.result _ _
    (begun_as c.args.setup.now entering.next (tables entering) entering.supply.moment c.args.key.now c.args.request.now c.args.not_after ByAsking (search rules)
    (search rules) (sym is))
    (subst (λ (o : OpeningNote). IfOk c.begin_by_asking.result
    (Plans entering (begin_rows ByAsking (tables entering) entering.supply.moment o c.args.request.now)))
    c.in_ok-opening-in-ByAsking.ensures c.begin_by_asking.ensures)
