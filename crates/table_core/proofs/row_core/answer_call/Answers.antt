use Rattle.std.proofs.Common.{arith, ap}
use Rattle.std.proofs.lemmas.Result.{IfOk-weaker, on_err_weaker}
use Rattle.gnap_tables.specs.ActionsByRows.{row_supply}
use Rattle.table_core.specs.CallEffects.{tables_in}
use Rattle.table_core.proofs.PlannedCalls.{planned_else, frugal_unplanned}
use Rattle.table_core.proofs.row_core.answer_call.Goals as goal

pub returns-in-Cancel-clause-ok : goal.returns-in-Cancel-clause-ok
returns-in-Cancel-clause-ok c =
    let supply = c.args.supply.now in
    rw c.in-Cancel.is
    (c.cancel.ensures.acts c.args.rules.now c.args.next
    (row_supply supply.first (tables_in c.args.grants.now.rows c.args.tokens.now.rows) supply.moment supply.words.now))

pub returns-in-Revoke-clause-ok : goal.returns-in-Revoke-clause-ok
returns-in-Revoke-clause-ok c =
    let supply = c.args.supply.now in
    rw c.in-Revoke.is
    (c.revoke.ensures.acts c.args.rules.now c.args.next
    (row_supply supply.first (tables_in c.args.grants.now.rows c.args.tokens.now.rows) supply.moment supply.words.now))

pub rotate-requires : goal.rotate-requires
rotate-requires c = record { room = (c.args.next, c.requires.room) }

pub returns-in-Rotate-clause-ok : goal.returns-in-Rotate-clause-ok
returns-in-Rotate-clause-ok c =
    rw c.in-Rotate.is (IfOk-weaker c.rotate.result _ _ (λ answered acts. acts c.args.next) c.rotate.ensures.ok)

pub returns-in-Rotate-clause-doors : goal.returns-in-Rotate-clause-doors
returns-in-Rotate-clause-doors c =
    let below = c.requires.room.doors in
    IfOk-weaker c.rotate.result _ _ (λ answered few. omega (arith, below)) c.rotate.ensures.few

pub returns-in-Rotate-clause-err : goal.returns-in-Rotate-clause-err
returns-in-Rotate-clause-err c = on_err_weaker c.rotate.result (λ same. ap (tables_in c.args.grants.now.rows) same) c.rotate.ensures.err

pub answer_by_plan-requires-clause-planned : goal.answer_by_plan-requires-clause-planned
answer_by_plan-requires-clause-planned c =
    planned_else c.args.call.now c.requires.no_introspection c.in_default.not-Cancel c.in_default.not-Revoke c.in_default.not-Rotate c.requires.no_lapse

pub returns-in_default-clause-frugal : goal.returns-in_default-clause-frugal
returns-in_default-clause-frugal c = λ frugal.
    absurd (frugal_unplanned c.args.call.now
    (planned_else c.args.call.now c.requires.no_introspection c.in_default.not-Cancel c.in_default.not-Revoke c.in_default.not-Rotate c.requires.no_lapse)
    frugal)
