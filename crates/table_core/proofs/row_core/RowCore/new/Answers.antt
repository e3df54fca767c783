use Rattle.std.proofs.Common.{arith}
use Rattle.grant_machine.specs.Gnap.{GnapFits}
use Rattle.table_laws.proofs.TablesThroughCalls.{stands-nothing}
use Rattle.table_core.proofs.row_core.RowCore.new.Goals as goal

pub returns-clause-empty : goal.returns-clause-empty
returns-clause-empty c = record
    { rows = rw (c.new.ensures.rows, c.new-2.ensures) (stands-nothing GnapFits c.args.setup); doors = let none = c.new.ensures.doors in omega (arith, none) }
