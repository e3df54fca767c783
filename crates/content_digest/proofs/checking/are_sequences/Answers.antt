use Rattle.std.proofs.Common.{sym, ◌∙◌}
use Rattle.content_digest.specs.Digest.{has_right_kind, are_sequences}
use Rattle.content_digest.proofs.Steps.{all_stop, all_more}
use Rattle.content_digest.proofs.checking.are_sequences.Goals as goal

pub returns-then-not-has_right_kind : goal.returns-then-not-has_right_kind
returns-then-not-has_right_kind c = all_stop has_right_kind c.args.members.now c.loop-i.i (c.at.result.0.now, c.at.result.1.now)
    (are_sequences c.args.members.now) c.at.ensures c.loop-i.invariant
    (rw c.as_slice.ensures.value at (sym c.has_right_kind.ensures) ∙ c.if-not-has_right_kind.true)

pub loop-i-preserved : goal.loop-i-preserved
loop-i-preserved c = all_more has_right_kind c.args.members.now c.loop-i.i (c.at.result.0.now, c.at.result.1.now) (are_sequences c.args.members.now)
    c.at.ensures c.loop-i.invariant
    (rw c.as_slice.ensures.value at (sym c.has_right_kind.ensures) ∙ c.if-not-has_right_kind.false)
