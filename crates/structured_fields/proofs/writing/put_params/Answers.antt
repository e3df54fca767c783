use Rattle.std.proofs.Common.{append_assoc}
use Rattle.structured_fields.proofs.Written.{params_more}
use Rattle.structured_fields.proofs.writing.put_params.Goals as goal

pub loop-i-preserved : goal.loop-i-preserved
loop-i-preserved c = let m = params_more c.args.params.now c.loop-i.i c.at.result.0.now c.at.result.1.now c.at.ensures in
    rw (m, c.in_ok-put_value.ensures, c.in_ok-extend.ensures.ok, c.as_slice.ensures.value, c.in_ok-push.ensures.ok, c.loop-i.invariant) (simp append_assoc)
