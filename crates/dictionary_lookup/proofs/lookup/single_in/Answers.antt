use Rattle.std.specs.Option.{option_map}
use Rattle.std.proofs.Common.{◌≡◌, ap, arith, refl, None, [], ◌-◌, length}
use Rattle.std.proofs.lemmas.Result.{err_from_is_err_and}
use Rattle.structured_fields.specs.Named.{value_at}
use Rattle.dictionary_lookup.specs.Skipping.{bare_found}
use Rattle.dictionary_lookup.proofs.Behind.{fails_map}
use Rattle.dictionary_lookup.proofs.SkippedEntries.{entries_begin, entries_over, entries_fail, entries_more, entries_done, entries_refused, found_is}
use Rattle.dictionary_lookup.proofs.lookup.single_in.Goals as goal

pub loop-init : goal.loop-init
loop-init c = entries_begin (λ d. None ≡ bare_found (value_at d c.args.key.now)) c.args.bytes.now refl

pub returns-in_err-now : goal.returns-in_err-now
returns-in_err-now c = let p = err_from_is_err_and c.from_residual.result c.from_residual.ensures.1 in rw (p.1, p.2)
    (fails_map (λ d. bare_found (value_at d c.args.key.now)) c.in_err-now.field-0.0 _
    (entries_fail (λ d. c.loop.found ≡ bare_found (value_at d c.args.key.now)) (length c.args.bytes.now) c.loop.counter c.loop.left.now _ c.loop-test.true
    c.loop.invariant c.in_err-now.field-0.0 c.in_err-now.ensures.err))

pub returns-in_err-next : goal.returns-in_err-next
returns-in_err-next c = let p = err_from_is_err_and c.from_residual-in_err-next.result c.from_residual-in_err-next.ensures.1 in rw (p.1, p.2)
    (fails_map (λ d. bare_found (value_at d c.args.key.now)) c.in_err-next.field-0.0 _
    (entries_refused (λ d. c.loop.found ≡ bare_found (value_at d c.args.key.now)) (λ d. c.in_ok-now.now ≡ bare_found (value_at d c.args.key.now))
    (length c.args.bytes.now) c.loop.counter c.loop.left.now _ c.loop-test.true c.loop.invariant
    c.in_ok-now.rest.now c.in_ok-now.ensures.ok c.in_err-next.field-0.0 c.in_err-next.ensures))

pub returns-in_default : goal.returns-in_default
returns-in_default c =
    found_is c.args.key.now c.in_ok-now.now _
    (entries_done (λ d. c.loop.found ≡ bare_found (value_at d c.args.key.now)) (λ d. c.in_ok-now.now ≡ bare_found (value_at d c.args.key.now))
    (length c.args.bytes.now) c.loop.counter c.loop.left.now _ c.loop-test.true c.loop.invariant
    c.in_ok-now.rest.now c.in_ok-now.ensures.ok (rw c.in_default.is at c.in_ok-next.ensures))

pub loop-preserved : goal.loop-preserved
loop-preserved c =
    entries_more (λ d. c.loop.found ≡ bare_found (value_at d c.args.key.now)) (λ d. c.in_ok-now.now ≡ bare_found (value_at d c.args.key.now))
    (length c.args.bytes.now) c.loop.counter c.loop.left.now _ c.loop-test.true c.loop.invariant
    c.in_ok-now.rest.now c.in_ok-now.ensures.ok c.in-Some.next.now (rw c.in-Some.is at c.in_ok-next.ensures)

pub returns : goal.returns
returns c =
    ap (option_map (λ d. bare_found (value_at d c.args.key.now)))
    (entries_over (λ d. c.loop.found ≡ bare_found (value_at d c.args.key.now)) (length c.args.bytes.now - c.loop.counter) c.loop.left.now _ (omega arith)
    c.loop.invariant)
