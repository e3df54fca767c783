use Rattle.table_laws.proofs.RowLimits.{rows_within}
use Rattle.table_laws.proofs.laws.rows_keep_limits.Goals as goal

pub returns : goal.returns
returns c = rows_within
