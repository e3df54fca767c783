use Rattle.std.proofs.Common.{arith, sym, ◌∙◌, ◌-◌, length}
use Rattle.std.proofs.lemmas.Result.{err_from_is_err_and}
use Rattle.structured_fields.specs.Reading.{items_at}
use Rattle.structured_fields.proofs.Loop.{items_start, items_stopped, items_more, items_refused, items_failed, items_spent}
use Rattle.structured_fields.proofs.item_reading.items_of.Goals as goal

pub loop-init : goal.loop-init
loop-init c = rw c.new-items.ensures (items_start c.args.bytes.now)

pub returns-in-Some : goal.returns-in-Some
returns-in-Some c = rw c.in-Some.ensures.1
    (items_stopped (length c.args.bytes.now) c.loop.counter c.loop.items c.loop.left.now c.without_spaces-next.result.now (items_at c.args.bytes.now)
    c.without_spaces-next.ensures c.loop.invariant c.loop-test.true c.in-Some.ensures.0)

pub returns-in_err-item : goal.returns-in_err-item
returns-in_err-item c = let p = err_from_is_err_and c.from_residual.result c.from_residual.ensures.1 in rw (p.1, p.2)
    (items_failed (length c.args.bytes.now) c.loop.counter c.loop.items c.loop.left.now c.without_spaces-next.result.now (items_at c.args.bytes.now)
    c.without_spaces-next.ensures c.loop.invariant c.loop-test.true c.in_default.ensures c.in_err-item.field-0.0 c.in_err-item.ensures)

pub returns-then-not-is_item_end : goal.returns-then-not-is_item_end
returns-then-not-is_item_end c = items_refused (length c.args.bytes.now) c.loop.counter c.loop.items c.loop.left.now c.without_spaces-next.result.now
    (items_at c.args.bytes.now)
    c.without_spaces-next.ensures c.loop.invariant c.loop-test.true c.in_default.ensures c.in_ok-item.item c.in_ok-item.rest.now c.in_ok-item.ensures
    (sym c.is_item_end.ensures ∙ c.if-not-is_item_end.true)

pub loop-preserved : goal.loop-preserved
loop-preserved c = rw c.in_ok-push.ensures.ok
    (items_more (length c.args.bytes.now) c.loop.counter c.loop.items c.loop.left.now c.without_spaces-next.result.now (items_at c.args.bytes.now)
    c.without_spaces-next.ensures c.loop.invariant c.loop-test.true c.in_default.ensures c.in_ok-item.item c.in_ok-item.rest.now c.in_ok-item.ensures
    (sym c.is_item_end.ensures ∙ c.if-not-is_item_end.false))

pub returns : goal.returns
returns c = items_spent (length c.args.bytes.now - c.loop.counter) c.loop.items c.loop.left.now (items_at c.args.bytes.now) (omega arith) c.loop.invariant
