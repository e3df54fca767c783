use Rattle.std.proofs.Common.{arith}
use Rattle.gnap_history.proofs.Counts.{serial_is, values_in_memory}
use Rattle.gnap_history.proofs.note_list.NoteList.first_serial.Goals as goal

pub overflow_add-result : goal.overflow_add-result
overflow_add-result c =
    let few = values_in_memory c.self.inside.notes c.as_slice.result.now (cc) c.length_in_memory-length.ensures.few in omega arith

pub returns-clause-serial : goal.returns-clause-serial
returns-clause-serial c = let is = serial_is c.args.self.now in cc

pub returns-clause-few : goal.returns-clause-few
returns-clause-few c =
    let few = values_in_memory c.self.inside.notes c.as_slice.result.now (cc) c.length_in_memory-length.ensures.few in omega arith
