use Rattle.std.proofs.Common.{arith, ◌-◌, length}
use Rattle.std.proofs.lemmas.Result.{err_from_is_err_and}
use Rattle.structured_fields.specs.Reading.{member_at, with_last}
use Rattle.structured_fields.proofs.Loop.{members_failed, members_more, members_done, members_refused, members_spent}
use Rattle.structured_fields.proofs.reading.members_in.Goals as goal

pub returns-in_err-member : goal.returns-in_err-member
returns-in_err-member c = let p = err_from_is_err_and c.from_residual.result c.from_residual.ensures.1 in rw (p.1, p.2)
    (members_failed member_at with_last (length c.args.bytes.now) c.loop.counter c.loop.members c.loop.left.now _ c.loop-test.true c.loop.invariant
    c.in_err-member.field-0.0 c.in_err-member.ensures)

pub returns-in_err-next : goal.returns-in_err-next
returns-in_err-next c = let p = err_from_is_err_and c.from_residual-in_err-next.result c.from_residual-in_err-next.ensures.1 in rw (p.1, p.2)
    (members_refused member_at with_last (length c.args.bytes.now) c.loop.counter c.loop.members c.loop.left.now _ c.loop-test.true c.loop.invariant
    c.in_ok-member.member c.in_ok-member.rest.now c.in_ok-member.ensures c.in_err-next.field-0.0 c.in_err-next.ensures)

pub returns-in_default : goal.returns-in_default
returns-in_default c = rw c.in_ok-push.ensures.ok
    (members_done member_at with_last (length c.args.bytes.now) c.loop.counter c.loop.members c.loop.left.now _ c.loop-test.true c.loop.invariant
    c.in_ok-member.member c.in_ok-member.rest.now c.in_ok-member.ensures (rw c.in_default.is at c.in_ok-next.ensures))

pub loop-preserved : goal.loop-preserved
loop-preserved c = rw c.in_ok-push.ensures.ok
    (members_more member_at with_last (length c.args.bytes.now) c.loop.counter c.loop.members c.loop.left.now _ c.loop-test.true c.loop.invariant
    c.in_ok-member.member c.in_ok-member.rest.now c.in_ok-member.ensures c.in-Some.next.now (rw c.in-Some.is at c.in_ok-next.ensures))

pub returns : goal.returns
returns c = members_spent member_at with_last (length c.args.bytes.now - c.loop.counter) c.loop.members c.loop.left.now _ (omega arith) c.loop.invariant
