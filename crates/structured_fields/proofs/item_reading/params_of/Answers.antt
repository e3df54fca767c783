use Rattle.std.proofs.Common.{arith, subst, sym, ap, ◌∙◌, ◌-◌, length}
use Rattle.std.proofs.lemmas.Result.{err_from_is_err_and}
use Rattle.structured_fields.specs.Reading.{params_at, Fails, parameter_at}
use Rattle.structured_fields.proofs.Loop.{start, stopped, spent, more, failed}
use Rattle.structured_fields.proofs.item_reading.params_of.Goals as goal

pub loop-init : goal.loop-init
loop-init c = rw c.new-params.ensures (start c.args.bytes.now)

pub loop-preserved : goal.loop-preserved
loop-preserved c = rw c.in_ok-set.ensures.ok
    (more (length c.args.bytes.now) c.loop.counter c.loop.params c.loop.left.now c.in_ok-name.name c.in_ok-name.value c.in_ok-name.rest.now
    (params_at c.args.bytes.now) c.loop-test.true c.in-Some.ensures.0
    (sym (ap parameter_at c.in-Some.ensures.1) ∙ c.in_ok-name.ensures) c.loop.invariant)

pub returns-in_err-name : goal.returns-in_err-name
returns-in_err-name c = let p = err_from_is_err_and c.from_residual.result c.from_residual.ensures.1 in rw (p.1, p.2)
    (failed c.in_err-name.field-0.0 (length c.args.bytes.now) c.loop.counter c.loop.params c.loop.left.now (params_at c.args.bytes.now) c.loop-test.true
    c.in-Some.ensures.0
    (subst (λ t. Fails c.in_err-name.field-0.0 (parameter_at t)) c.in-Some.ensures.1 c.in_err-name.ensures) c.loop.invariant)

pub returns-in_default : goal.returns-in_default
returns-in_default c = stopped (length c.args.bytes.now - c.loop.counter) c.loop.params c.loop.left.now (params_at c.args.bytes.now) c.in_default.ensures
    c.loop.invariant

pub returns : goal.returns
returns c = spent (length c.args.bytes.now - c.loop.counter) c.loop.params c.loop.left.now (params_at c.args.bytes.now) (omega arith) c.loop.invariant
