use Rattle.std.proofs.Common.{arith, sym, ◌∙◌, ◌-◌, length}
use Rattle.std.proofs.lemmas.Result.{err_from_is_err_and}
use Rattle.structured_fields.specs.Reading.{items_at}
use Rattle.dictionary_lookup.proofs.Behind.{items_begin, items_closed, items_next, items_stuck, items_fail, items_over}
use Rattle.dictionary_lookup.proofs.skipping.behind_items.Goals as goal

pub loop-init : goal.loop-init
loop-init c = items_begin c.args.bytes.now

pub returns-in-Some : goal.returns-in-Some
returns-in-Some c =
    items_closed (length c.args.bytes.now) c.loop.counter c.loop.left.now c.without_spaces-next.result.now (items_at c.args.bytes.now)
    c.without_spaces-next.ensures c.loop.invariant c.loop-test.true c.in-Some.after.now c.in-Some.ensures.0 c.in-Some.ensures.1

pub returns-in_err-rest : goal.returns-in_err-rest
returns-in_err-rest c = let p = err_from_is_err_and c.from_residual.result c.from_residual.ensures.1 in rw (p.1, p.2)
    (items_fail (length c.args.bytes.now) c.loop.counter c.loop.left.now c.without_spaces-next.result.now (items_at c.args.bytes.now)
    c.without_spaces-next.ensures c.loop.invariant c.loop-test.true c.in_default.ensures c.in_err-rest.field-0.0 c.in_err-rest.ensures)

pub returns-then-not-is_item_end : goal.returns-then-not-is_item_end
returns-then-not-is_item_end c =
    items_stuck (length c.args.bytes.now) c.loop.counter c.loop.left.now c.without_spaces-next.result.now (items_at c.args.bytes.now)
    c.without_spaces-next.ensures c.loop.invariant c.loop-test.true c.in_default.ensures c.in_ok-rest.rest.now c.in_ok-rest.ensures
    (sym c.is_item_end.ensures ∙ c.if-not-is_item_end.true)

pub loop-preserved : goal.loop-preserved
loop-preserved c =
    items_next (length c.args.bytes.now) c.loop.counter c.loop.left.now c.without_spaces-next.result.now (items_at c.args.bytes.now)
    c.without_spaces-next.ensures c.loop.invariant c.loop-test.true c.in_default.ensures c.in_ok-rest.rest.now c.in_ok-rest.ensures
    (sym c.is_item_end.ensures ∙ c.if-not-is_item_end.false)

pub returns : goal.returns
returns c = items_over (length c.args.bytes.now - c.loop.counter) c.loop.left.now (items_at c.args.bytes.now) (omega arith) c.loop.invariant
