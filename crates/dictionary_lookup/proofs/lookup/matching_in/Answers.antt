use Rattle.std.proofs.Common.{arith, refl, [], ◌-◌, length}
use Rattle.std.proofs.lemmas.Result.{err_from_is_err_and}
use Rattle.dictionary_lookup.specs.declared.lookup.Matched.TheVariants.{Nowhere}
use Rattle.dictionary_lookup.specs.Skipping.{Tells}
use Rattle.dictionary_lookup.proofs.SkippedEntries.{entries_begin, entries_over, entries_fail, entries_more, entries_done, entries_refused}
use Rattle.dictionary_lookup.proofs.lookup.matching_in.Goals as goal

pub loop-init : goal.loop-init
loop-init c = entries_begin (Tells c.args.name.now c.args.s.now Nowhere) c.args.bytes.now refl

pub returns-in_err-now-clause-err : goal.returns-in_err-now-clause-err
returns-in_err-now-clause-err c = let p = err_from_is_err_and c.from_residual.result c.from_residual.ensures.1 in rw (p.1, p.2)
    (entries_fail (Tells c.args.name.now c.args.s.now c.loop.found) (length c.args.bytes.now) c.loop.counter c.loop.left.now _ c.loop-test.true c.loop.invariant
    c.in_err-now.field-0.0 c.in_err-now.ensures.err)

pub returns-in_err-next-clause-err : goal.returns-in_err-next-clause-err
returns-in_err-next-clause-err c = let p = err_from_is_err_and c.from_residual-in_err-next.result c.from_residual-in_err-next.ensures.1 in rw (p.1, p.2)
    (entries_refused (Tells c.args.name.now c.args.s.now c.loop.found) (Tells c.args.name.now c.args.s.now c.in_ok-now.now)
    (length c.args.bytes.now) c.loop.counter c.loop.left.now _ c.loop-test.true c.loop.invariant
    c.in_ok-now.rest.now c.in_ok-now.ensures.ok c.in_err-next.field-0.0 c.in_err-next.ensures)

pub returns-in_default-clause-ok : goal.returns-in_default-clause-ok
returns-in_default-clause-ok c =
    entries_done (Tells c.args.name.now c.args.s.now c.loop.found) (Tells c.args.name.now c.args.s.now c.in_ok-now.now)
    (length c.args.bytes.now) c.loop.counter c.loop.left.now _ c.loop-test.true c.loop.invariant
    c.in_ok-now.rest.now c.in_ok-now.ensures.ok (rw c.in_default.is at c.in_ok-next.ensures)

pub loop-preserved : goal.loop-preserved
loop-preserved c =
    entries_more (Tells c.args.name.now c.args.s.now c.loop.found) (Tells c.args.name.now c.args.s.now c.in_ok-now.now)
    (length c.args.bytes.now) c.loop.counter c.loop.left.now _ c.loop-test.true c.loop.invariant
    c.in_ok-now.rest.now c.in_ok-now.ensures.ok c.in-Some.next.now (rw c.in-Some.is at c.in_ok-next.ensures)

pub returns-clause-err : goal.returns-clause-err
returns-clause-err c = entries_over (Tells c.args.name.now c.args.s.now c.loop.found) (length c.args.bytes.now - c.loop.counter) c.loop.left.now _ (omega arith)
    c.loop.invariant
