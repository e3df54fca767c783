use Rattle.std.proofs.lemmas.Result.{err_from_is_err_and}
use Rattle.message_signature.specs.Lone.{tagged_read}
use Rattle.message_signature.specs.Verified.{judged}
use Rattle.message_signature.proofs.LoneSteps.{fails_first}
use Rattle.message_signature.proofs.verifying.judged_read.Goals as goal

pub returns-in_err-one : goal.returns-in_err-one
returns-in_err-one c label = let p = err_from_is_err_and c.from_residual.result c.from_residual.ensures.1 in rw (p.1, p.2)
    (fails_first (tagged_read label c.args.tag.now c.args.read.now) (judged c.args.message.now c.args.base.now c.args.ring.now c.args.now)
    c.in_err-one.field-0.0
    (rw c.as_slice.ensures.value at c.in_err-one.ensures.err label))

pub returns : goal.returns
returns c label =
    let found = rw c.as_slice.ensures.value at c.in_ok-one.ensures.ok label in
    rw found.1 (c.judged_found.ensures found.0)
