use Rattle.std.proofs.Common.{arith, [], refl, sym, ap, ◌∙◌, ◌+◌, ◌-◌, length}
use Rattle.std.specs.Option.{option_map}
use Rattle.std.proofs.lemmas.Result.{err_from_is_err_and}
use Rattle.structured_fields.specs.Reading.{items_at}
use Rattle.structured_fields.proofs.Loop.{items_start, items_stopped, items_more, items_refused, items_failed, items_spent}
use Rattle.dictionary_lookup.specs.Skipping.{strings_read}
use Rattle.dictionary_lookup.proofs.Behind.{fails_map}
use Rattle.dictionary_lookup.proofs.StringLists.{all_read, one_more}
use Rattle.dictionary_lookup.proofs.string_lists.strings_of.Goals as goal

pub loop-init : goal.loop-init
loop-init c =
    rw c.new-items.ensures
    (record { held = []; reads = items_start c.args.bytes.now; strings_is = refl; kept_is = λ all. refl; cut_is = λ all. refl })

pub returns-in_err-now : goal.returns-in_err-now
returns-in_err-now c = let p = err_from_is_err_and c.from_residual.result c.from_residual.ensures.1 in rw (p.1, p.2)
    (fails_map strings_read c.in_err-now.field-0.0 (items_at c.args.bytes.now)
    (items_failed (length c.args.bytes.now) c.loop.counter c.loop.invariant.held c.loop.left.now c.without_spaces-next.result.now
    (items_at c.args.bytes.now)
    c.without_spaces-next.ensures c.loop.invariant.reads c.loop-test.true c.in_default.ensures c.in_err-now.field-0.0 c.in_err-now.ensures.err))

pub returns-then-not-is_item_end : goal.returns-then-not-is_item_end
returns-then-not-is_item_end c =
    let read = c.in_ok-now.ensures.ok in
    ap (option_map strings_read)
    (items_refused (length c.args.bytes.now) c.loop.counter c.loop.invariant.held c.loop.left.now c.without_spaces-next.result.now
    (items_at c.args.bytes.now)
    c.without_spaces-next.ensures c.loop.invariant.reads c.loop-test.true c.in_default.ensures read.0 c.in_ok-now.rest.now read.1
    (sym c.is_item_end.ensures ∙ c.if-not-is_item_end.true))

pub returns-in-Some : goal.returns-in-Some
returns-in-Some c =
    all_read (length c.args.bytes.now - c.loop.counter) c.loop.items c.loop.so_far c.loop.left.now c.without_spaces-next.result.now c.in-Some.after.now
    c.then_some.result _ c.loop.invariant
    (items_stopped (length c.args.bytes.now) c.loop.counter c.loop.invariant.held c.loop.left.now c.without_spaces-next.result.now
    (items_at c.args.bytes.now)
    c.without_spaces-next.ensures c.loop.invariant.reads c.loop-test.true c.in-Some.ensures.0)
    c.in-Some.ensures.1 (λ t. c.then_some.ensures ∙ rw t refl) (λ t. c.then_some.ensures ∙ rw t refl)

pub loop-preserved : goal.loop-preserved
loop-preserved c =
    let read = c.in_ok-now.ensures.ok in
    one_more (length c.args.bytes.now - c.loop.counter) (length c.args.bytes.now - (c.loop.counter + 1)) c.loop.items _ c.loop.so_far
    c.in_ok-now.now c.loop.left.now c.in_ok-now.rest.now (items_at c.args.bytes.now) read.0 c.loop.invariant
    (items_more (length c.args.bytes.now) c.loop.counter c.loop.invariant.held c.loop.left.now c.without_spaces-next.result.now
    (items_at c.args.bytes.now)
    c.without_spaces-next.ensures c.loop.invariant.reads c.loop-test.true c.in_default.ensures read.0 c.in_ok-now.rest.now read.1
    (sym c.is_item_end.ensures ∙ c.if-not-is_item_end.false))
    read.2

pub returns : goal.returns
returns c = ap (option_map strings_read)
    (items_spent (length c.args.bytes.now - c.loop.counter) c.loop.invariant.held c.loop.left.now (items_at c.args.bytes.now) (omega arith)
    c.loop.invariant.reads)
