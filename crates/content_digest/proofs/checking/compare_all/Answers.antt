use Rattle.std.proofs.lemmas.Result.{err_from_is_err_and}
use Rattle.content_digest.specs.Judged.{first_difference}
use Rattle.content_digest.proofs.Steps.{differ_more, differ_stop}
use Rattle.content_digest.proofs.checking.compare_all.Goals as goal

pub returns-in_err-compare : goal.returns-in_err-compare
returns-in_err-compare c = let p = err_from_is_err_and c.from_residual.result c.from_residual.ensures.1 in rw (p.1, p.2)
    (differ_stop c.args.body.now c.args.members.now c.loop-i.i (c.at.result.0.now, c.at.result.1.now) (first_difference c.args.body.now c.args.members.now)
    c.at.ensures c.loop-i.invariant
    c.in_err-compare.field-0.0 (rw c.as_slice.ensures.value at c.in_err-compare.ensures))

pub loop-i-preserved : goal.loop-i-preserved
loop-i-preserved c = differ_more c.args.body.now c.args.members.now c.loop-i.i (c.at.result.0.now, c.at.result.1.now)
    (first_difference c.args.body.now c.args.members.now) c.at.ensures c.loop-i.invariant
    (rw c.as_slice.ensures.value at c.in_ok-compare.ensures)
