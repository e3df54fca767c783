use Rattle.std.proofs.lemmas.Result.{err_from_is_err_and}
use Rattle.message_signature.specs.Components.{text_of}
use Rattle.message_signature.proofs.LoneSteps.{no_input, no_signature, by_texts}
use Rattle.message_signature.proofs.lone.lone_signature.Goals as goal

pub returns-in_err-input-clause-err : goal.returns-in_err-input-clause-err
returns-in_err-input-clause-err c = let p = err_from_is_err_and c.from_residual.result c.from_residual.ensures.1 in rw (p.1, p.2)
    (no_input c.args.message.now c.args.tag.now c.in_err-input.field-0.0 c.in_err-input.ensures)

pub returns-in_err-signature-clause-err : goal.returns-in_err-signature-clause-err
returns-in_err-signature-clause-err c = let p = err_from_is_err_and c.from_residual-in_err-signature.result c.from_residual-in_err-signature.ensures.1 in rw
    (p.1, p.2)
    (no_signature c.args.message.now c.args.tag.now (text_of c.in_ok-input.input) c.in_ok-input.ensures c.in_err-signature.field-0.0 c.in_err-signature.ensures)

pub returns-clause-ok : goal.returns-clause-ok
returns-clause-ok c =
    rw (by_texts c.args.message.now c.args.tag.now (text_of c.in_ok-input.input) c.in_ok-input.ensures (text_of c.in_ok-signature.signature)
    c.in_ok-signature.ensures)
    (rw (c.as_slice.ensures, c.as_slice-2.ensures) at c.lone_in.ensures.ok)

pub returns-clause-err : goal.returns-clause-err
returns-clause-err c =
    rw (by_texts c.args.message.now c.args.tag.now (text_of c.in_ok-input.input) c.in_ok-input.ensures (text_of c.in_ok-signature.signature)
    c.in_ok-signature.ensures)
    (rw (c.as_slice.ensures, c.as_slice-2.ensures) at c.lone_in.ensures.err)
