use Rattle.std.proofs.Common.{sym, ◌∙◌}
use Rattle.content_digest.specs.Digest.{is_known, has_known}
use Rattle.content_digest.proofs.Steps.{any_stop, any_more}
use Rattle.content_digest.proofs.checking.has_known.Goals as goal

pub returns-then-is_known : goal.returns-then-is_known
returns-then-is_known c = any_stop (λ e. is_known e.0) c.args.members.now c.loop-i.i (c.at.result.0.now, c.at.result.1.now) (has_known c.args.members.now)
    c.at.ensures c.loop-i.invariant
    (rw c.as_slice.ensures.value at (sym c.is_known.ensures) ∙ c.if-is_known.true)

pub loop-i-preserved : goal.loop-i-preserved
loop-i-preserved c = any_more (λ e. is_known e.0) c.args.members.now c.loop-i.i (c.at.result.0.now, c.at.result.1.now) (has_known c.args.members.now)
    c.at.ensures c.loop-i.invariant
    (rw c.as_slice.ensures.value at (sym c.is_known.ensures) ∙ c.if-is_known.false)
