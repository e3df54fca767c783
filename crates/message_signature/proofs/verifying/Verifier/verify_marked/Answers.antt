use Rattle.std.proofs.Common.{[]}
use Rattle.std.proofs.lemmas.Result.{err_from_is_err_and}
use Rattle.message_signature.proofs.LoneSteps.{marked_by_read, marked_fails}
use Rattle.message_signature.proofs.verifying.Verifier.verify_marked.Goals as goal

pub returns-in_err-read : goal.returns-in_err-read
returns-in_err-read c = let p = err_from_is_err_and c.from_residual.result c.from_residual.ensures.1 in rw (p.1, p.2)
    (marked_fails c.args.message.now c.args.base.now c.args.ring.now c.args.now c.args.tag.now c.in_err-read.field-0.0
    (rw c.as_slice.ensures.value at c.in_err-read.ensures.err))

pub returns : goal.returns
returns c =
    let read = rw c.as_slice.ensures.value at c.in_ok-read.ensures.ok in
    rw (marked_by_read c.args.message.now c.args.base.now c.args.ring.now c.args.now c.args.tag.now [] c.in_ok-read.read read) (c.id_and_mark-both.ensures [])
