use Rattle.std.proofs.Common.{◌∙◌, length, ap, sym, subst, arith}
use Rattle.std.specs.Prelude.{IfOk}
use Rattle.shared_server.specs.Passes.{IsPassOf}
use Rattle.desk_load.specs.Sharing.{WorkerState, IsWorker, HasCounted}
use Rattle.desk_load.proofs.Joining.{done-next, counted-as, next_at, parts-next, size-next}
use Rattle.desk_load.proofs.workers.end_workers.Goals as goal

pub loop-worker-preserved : goal.loop-worker-preserved
loop-worker-preserved g c =
    let i = c.loop-worker.invariant in
    let w : WorkerState = c.in-Some.worker in
    let pass = c.leave-pass.result.0 in
    let pushed = c.in_ok-push.ensures.items in
    let at = next_at c.loop-worker.yielded _ _ _ w i.2 c.in-Some.ensures.steps.0 in
    let placed : IsWorker c.args.shared.now c.args.grants c.args.start (length c.loop-worker.passes.items) w
    = subst (λ n. IsWorker c.args.shared.now c.args.grants c.args.start n w) (sym i.3) (c.requires.workers.each (length c.loop-worker.yielded) w at) in
    let done = size-next c.loop-worker.yielded w in
    let size = size-next c.loop-worker.passes.items pass in
    let tally = c.in_ok-made.field-0 in
    let own = subst (λ r. IfOk r (HasCounted w.grants w.start w.workers w.worker w.station.number pass.seen)) c.in_ok-made.was c.leave-pass.ensures.counted in
    let counted = counted-as c.args.shared.now c.args.grants c.args.start (length c.loop-worker.passes.items) w pass.seen tally placed own in
    let most = counted.most in (
      tt,
      tt,
      parts-next c.loop-worker.yielded _ _ _ w i.2 c.in-Some.ensures.steps.0,
      (let a = ap length pushed in let b = i.3 in omega (arith, a, b, size, done)),
      done-next c.args.shared.now c.args.grants c.args.start c.loop-worker.passes.items _ pass c.loop-worker.total c.add.new.self tally i.4 pushed c.add.ensures
          (record {
            of = subst (λ h. IsPassOf h pass) placed.home c.leave-pass.ensures.of;
            number = c.leave-pass.ensures.number ∙ placed.number;
            counted = counted;
          }),
      (let a = ap length pushed in let b = i.5 in let x = c.add.ensures.active in let y = c.add.ensures.inactive in let z = c.add.ensures.done in omega
          (arith, a, b, x, y, z, most, size)),
      (let a = c.in-Some.ensures.steps.1 in let b = ap length c.in-Some.ensures.steps.0 in let d = i.6 in omega (arith, a, b, d)),
    )
