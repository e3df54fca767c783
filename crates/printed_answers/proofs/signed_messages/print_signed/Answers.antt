use Rattle.std.proofs.Common.{◌++◌, refl}
use Rattle.std.specs.Option.{option_copied}
use Rattle.signed_files.specs.SignedText.{SignsFile}
use Rattle.printed_answers.proofs.MessageAnswers.{prints_text, prints_fault, text_reads, text_unlimited, fault_reads, fault_unlimited, fault_unfinished}
use Rattle.printed_answers.proofs.signed_messages.print_signed.Goals as goal

pub returns-in-Ok-clause-prints : goal.returns-in-Ok-clause-prints
returns-in-Ok-clause-prints g c = λ rest known.
    prints_text (SignsFile c.args.setup.now c.args.key.now c.args.created (option_copied c.args.nonce) ((g.S.Device.told c.sign_file.new.source).taken ++ rest))
    _ _ c.print_text.result c.in-Ok.text (c.in-Ok.ensures.answer rest known) c.print_text.ensures.prints

pub returns-in-Ok-clause-reads : goal.returns-in-Ok-clause-reads
returns-in-Ok-clause-reads g c = text_reads c.print_text.result _ _ c.print_text.ensures.ended c.in-Ok.ensures.counts

pub returns-in-Ok-clause-limited : goal.returns-in-Ok-clause-limited
returns-in-Ok-clause-limited g c = text_unlimited c.print_text.result c.print_text.ensures.ended

pub returns-in-Ok-clause-end : goal.returns-in-Ok-clause-end
returns-in-Ok-clause-end g c = λ is. c.in-Ok.ensures.end refl

pub returns-in-Err-clause-prints : goal.returns-in-Err-clause-prints
returns-in-Err-clause-prints g c = λ rest known.
    prints_fault (SignsFile c.args.setup.now c.args.key.now c.args.created (option_copied c.args.nonce)
    ((g.S.Device.told c.sign_file.new.source).taken ++ rest)) _ _ c.print_fault.result c.in-Err.fault (c.in-Err.ensures.answer rest known)
    c.print_fault.ensures.prints

pub returns-in-Err-clause-reads : goal.returns-in-Err-clause-reads
returns-in-Err-clause-reads g c = fault_reads c.in-Err.fault c.print_fault.result _ _ _ _ c.print_fault.ensures.prints c.in-Err.ensures.counts

pub returns-in-Err-clause-limited : goal.returns-in-Err-clause-limited
returns-in-Err-clause-limited g c = fault_unlimited c.in-Err.fault c.print_fault.result _ _ c.print_fault.ensures.prints

pub returns-in-Err-clause-end : goal.returns-in-Err-clause-end
returns-in-Err-clause-end g c = λ is. absurd (fault_unfinished c.in-Err.fault c.print_fault.result _ _ c.print_fault.ensures.prints is)
