use Rattle.table_core.proofs.PlannedCalls.{frugal_unremembered}
use Rattle.table_core.proofs.table_core.TableCoreCore.step.Goals as goal

pub returns-clause-frugal : goal.returns-clause-frugal
returns-clause-frugal c = λ frugal. c.step.ensures.frugal (frugal, frugal_unremembered c.args.signed.now.call frugal)
