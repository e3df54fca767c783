use Rattle.histories.specs.ByNotes.{stands-nil}
use Rattle.resource_sets.specs.Sets.{SetFits, set_answer}
use Rattle.resource_sets.specs.declared.sets.SetCall.TheVariants.{Lapse}
use Rattle.resource_sets.proofs.set_table.SetTable.new.Goals as goal

pub returns-clause-empty : goal.returns-clause-empty
returns-clause-empty c = rw c.new.ensures (stands-nil set_answer SetFits Lapse c.args.setup)
