use Rattle.std.proofs.Common.{arith, ◌-◌, length}
use Rattle.std.proofs.lemmas.Result.{err_from_is_err_and}
use Rattle.structured_fields.specs.Reading.{params_at}
use Rattle.dictionary_lookup.proofs.Behind.{params_start, params_stopped, params_spent, params_more, params_failed}
use Rattle.dictionary_lookup.proofs.skipping.params_matched.Goals as goal

pub loop-init : goal.loop-init
loop-init c = params_start c.args.name.now c.args.s.now c.args.bytes.now

pub loop-preserved : goal.loop-preserved
loop-preserved c =
    params_more c.args.name.now c.args.s.now c.loop.matched (length c.args.bytes.now) c.loop.counter c.loop.left.now c.in-Some.after.now
    (params_at c.args.bytes.now)
    c.loop-test.true c.in-Some.ensures.0 c.in-Some.ensures.1 c.loop.invariant c.in_ok-now_matched.now_matched c.in_ok-now_matched.rest.now
    c.in_ok-now_matched.ensures

pub returns-in_err-now_matched : goal.returns-in_err-now_matched
returns-in_err-now_matched c = let p = err_from_is_err_and c.from_residual.result c.from_residual.ensures.1 in rw (p.1, p.2)
    (params_failed c.args.name.now c.args.s.now c.loop.matched (length c.args.bytes.now) c.loop.counter c.loop.left.now c.in-Some.after.now
    (params_at c.args.bytes.now)
    c.loop-test.true c.in-Some.ensures.0 c.in-Some.ensures.1 c.loop.invariant c.in_err-now_matched.field-0.0 c.in_err-now_matched.ensures)

pub returns-in_default : goal.returns-in_default
returns-in_default c =
    params_stopped c.args.name.now c.args.s.now c.loop.matched (length c.args.bytes.now - c.loop.counter) c.loop.left.now (params_at c.args.bytes.now)
    c.in_default.ensures c.loop.invariant

pub returns : goal.returns
returns c =
    params_spent c.args.name.now c.args.s.now c.loop.matched (length c.args.bytes.now - c.loop.counter) c.loop.left.now (params_at c.args.bytes.now)
    (omega arith) c.loop.invariant
