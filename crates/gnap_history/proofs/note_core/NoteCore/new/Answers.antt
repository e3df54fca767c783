use Rattle.histories.specs.ByNotes.{stands-nil}
use Rattle.gnap_model.specs.Answer.{gnap_answer}
use Rattle.gnap_model.specs.declared.calls.Call.TheVariants.{Lapse}
use Rattle.grant_machine.specs.Gnap.{GnapFits}
use Rattle.gnap_history.proofs.note_core.NoteCore.new.Goals as goal

pub returns-clause-empty : goal.returns-clause-empty
returns-clause-empty c = rw c.new.ensures (stands-nil gnap_answer GnapFits Lapse c.args.setup)
