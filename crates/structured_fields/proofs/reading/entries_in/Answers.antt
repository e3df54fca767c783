use Rattle.std.proofs.Common.{arith, ◌-◌, length}
use Rattle.std.proofs.lemmas.Result.{err_from_is_err_and}
use Rattle.structured_fields.specs.Reading.{entry_at, with_entry}
use Rattle.structured_fields.proofs.Loop.{members_failed, members_more, members_done, members_refused, members_spent}
use Rattle.structured_fields.proofs.reading.entries_in.Goals as goal

pub returns-in_err-name : goal.returns-in_err-name
returns-in_err-name c = let p = err_from_is_err_and c.from_residual.result c.from_residual.ensures.1 in rw (p.1, p.2)
    (members_failed entry_at with_entry (length c.args.bytes.now) c.loop.counter c.loop.entries c.loop.left.now _ c.loop-test.true c.loop.invariant
    c.in_err-name.field-0.0 c.in_err-name.ensures)

pub returns-in_err-next : goal.returns-in_err-next
returns-in_err-next c = let p = err_from_is_err_and c.from_residual-in_err-next.result c.from_residual-in_err-next.ensures.1 in rw (p.1, p.2)
    (members_refused entry_at with_entry (length c.args.bytes.now) c.loop.counter c.loop.entries c.loop.left.now _ c.loop-test.true c.loop.invariant
    (c.in_ok-name.name, c.in_ok-name.member) c.in_ok-name.rest.now c.in_ok-name.ensures c.in_err-next.field-0.0 c.in_err-next.ensures)

pub returns-in_default : goal.returns-in_default
returns-in_default c = rw c.in_ok-set.ensures.ok
    (members_done entry_at with_entry (length c.args.bytes.now) c.loop.counter c.loop.entries c.loop.left.now _ c.loop-test.true c.loop.invariant
    (c.in_ok-name.name, c.in_ok-name.member) c.in_ok-name.rest.now c.in_ok-name.ensures (rw c.in_default.is at c.in_ok-next.ensures))

pub loop-preserved : goal.loop-preserved
loop-preserved c = rw c.in_ok-set.ensures.ok
    (members_more entry_at with_entry (length c.args.bytes.now) c.loop.counter c.loop.entries c.loop.left.now _ c.loop-test.true c.loop.invariant
    (c.in_ok-name.name, c.in_ok-name.member) c.in_ok-name.rest.now c.in_ok-name.ensures c.in-Some.next.now (rw c.in-Some.is at c.in_ok-next.ensures))

pub returns : goal.returns
returns c = members_spent entry_at with_entry (length c.args.bytes.now - c.loop.counter) c.loop.entries c.loop.left.now _ (omega arith) c.loop.invariant
