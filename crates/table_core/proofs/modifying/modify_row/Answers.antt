use Rattle.std.proofs.Common.{◌≡◌, ap}
use Rattle.gnap_model.specs.Judging.{Settled, settle}
use Rattle.gnap_model.specs.Judging.Settled.{AtOnce, ByAsking, Never}
use Rattle.gnap_tables.specs.ActionsByRows.{modify_rows}
use Rattle.table_core.specs.Entries.{tables}
use Rattle.table_core.proofs.PlanLemmas.{plan_as, plans_as}
use Rattle.table_core.proofs.modifying.modify_row.Goals as goal

pub returns-in-AtOnce : goal.returns-in-AtOnce
returns-in-AtOnce c =
    let entering = c.args.entering.now in
    let is : AtOnce ≡ settle c.args.setup.now c.args.row.now.key c.args.row.now.consent c.args.request.now = rw
    (c.in-AtOnce.is, c.as_slice.ensures.value, c.in_ok-consent.ensures) at c.in_ok-settle.ensures in
    plans_as entering c.modify_at_once.result _ _
    (ap (λ (s : Settled). modify_rows s (tables entering) entering.supply.moment c.args.row.now c.args.request.now) is) c.modify_at_once.ensures

pub returns-in-ByAsking : goal.returns-in-ByAsking
returns-in-ByAsking c =
    let entering = c.args.entering.now in
    let is : ByAsking ≡ settle c.args.setup.now c.args.row.now.key c.args.row.now.consent c.args.request.now = rw
    (c.in-ByAsking.is, c.as_slice.ensures.value, c.in_ok-consent.ensures) at c.in_ok-settle.ensures in
    plans_as entering c.modify_by_asking.result _ _
    (ap (λ (s : Settled). modify_rows s (tables entering) entering.supply.moment c.args.row.now c.args.request.now) is) c.modify_by_asking.ensures

pub returns : goal.returns
returns c =
    let entering = c.args.entering.now in
    let is : Never ≡ settle c.args.setup.now c.args.row.now.key c.args.row.now.consent c.args.request.now = rw
    (c.in-Never.is, c.as_slice.ensures.value, c.in_ok-consent.ensures) at c.in_ok-settle.ensures in
    plan_as entering c.refused.result _ _ (ap (λ (s : Settled). modify_rows s (tables entering) entering.supply.moment c.args.row.now c.args.request.now) is)
    c.refused.ensures
