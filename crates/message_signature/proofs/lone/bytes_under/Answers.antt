use Rattle.structured_fields.specs.Reading.{dictionary_of}
use Rattle.message_signature.proofs.LoneSteps.{bytes_read, no_bytes}
use Rattle.message_signature.proofs.lone.bytes_under.Goals as goal

pub returns-in-Ok : goal.returns-in-Ok
returns-in-Ok c = rw c.bytes_in.ensures (bytes_read c.args.label.now (dictionary_of c.args.signature.now) c.in-Ok.bare c.in-Ok.ensures)

pub returns-in-Err-NotInGrammar : goal.returns-in-Err-NotInGrammar
returns-in-Err-NotInGrammar c = no_bytes c.args.label.now (dictionary_of c.args.signature.now)
    (rw c.in-Err-NotInGrammar.field-0-is at c.in-Err-NotInGrammar.ensures)
