use Rattle.table_core.proofs.PlanLemmas.{carried_ok, counted_few}
use Rattle.table_core.proofs.row_core.answer_by_plan.Goals as goal

pub plan_call-requires-clause-few : goal.plan_call-requires-clause-few
plan_call-requires-clause-few c = c.requires.fits.0

pub carry_out-requires-clause-few : goal.carry_out-requires-clause-few
carry_out-requires-clause-few c = c.in_ok-plan.ensures.few

pub carry_out-requires-clause-can : goal.carry_out-requires-clause-can
carry_out-requires-clause-can c = c.in_ok-plan.ensures.can

pub returns-clause-ok : goal.returns-clause-ok
returns-clause-ok c = carried_ok _ _ c.in_ok-plan.plan _ c.carry_out.result c.in_ok-plan.ensures c.carry_out.ensures.answered c.carry_out.ensures.tables

pub returns-clause-few : goal.returns-clause-few
returns-clause-few c = counted_few c.in_ok-plan.plan c.carry_out.result c.in_ok-plan.ensures.few c.carry_out.ensures.answered
