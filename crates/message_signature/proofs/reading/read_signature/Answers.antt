use Rattle.std.proofs.lemmas.Result.{err_from_is_err_and}
use Rattle.message_signature.proofs.LoneSteps.{no_fields, by_fields}
use Rattle.message_signature.proofs.reading.read_signature.Goals as goal

pub returns-in_err-signature_fields-in-None-clause-err : goal.returns-in_err-signature_fields-in-None-clause-err
returns-in_err-signature_fields-in-None-clause-err c =
    let from = c.from_residual-in_err-signature_fields-in-None in
    let p = err_from_is_err_and from.result from.ensures.1 in
    rw (p.1, p.2) (no_fields c.args.message.now c.args.tag.now c.in_err-signature_fields-in-None.field-0.0 c.in_err-signature_fields-in-None.ensures)

pub returns-in_ok-signature_fields-in-None-clause-ok : goal.returns-in_ok-signature_fields-in-None-clause-ok
returns-in_ok-signature_fields-in-None-clause-ok c =
    let read = c.in_ok-signature_fields-in-None in by_fields c.args.message.now c.args.tag.now read.field-0 read.ensures
