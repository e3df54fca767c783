use Rattle.std.proofs.Common.{◌≡◌, ◌∙◌, length, ap, sym, subst, arith}
use mathlib.Core.Option.{some}
use lib.ListN.{get_elem?}
use Rattle.shared_server.specs.Passes.{StationState}
use Rattle.gnap_model.specs.declared.objects.Setup.{Setup}
use Rattle.grant_machine.specs.Gnap.{GnapEntry}
use Rattle.desk_load.specs.Sharing.{WorkerState, IsWorker}
use Rattle.desk_load.proofs.Joining.{each-next, next_at, parts-next, size-next}
use Rattle.desk_load.proofs.workers.start_workers.Goals as goal

pub new-requires-clause-of : goal.new-requires-clause-of
new-requires-clause-of g c = (c.requires.new.all.each (length c.loop-pass.yielded) c.in-Some.pass
    (next_at c.loop-pass.yielded _ _ _ c.in-Some.pass c.loop-pass.invariant.2 c.in-Some.ensures.steps.0)).0

pub new-requires-clause-unseen : goal.new-requires-clause-unseen
new-requires-clause-unseen g c = c.requires.new.unseen (length c.loop-pass.yielded) c.in-Some.pass
    (next_at c.loop-pass.yielded _ _ _ c.in-Some.pass c.loop-pass.invariant.2 c.in-Some.ensures.steps.0)

pub loop-pass-preserved : goal.loop-pass-preserved
loop-pass-preserved g c =
    let i = c.loop-pass.invariant in
    let pushed = c.in_ok-push.ensures.items in
    let w : WorkerState = c.new.result in
    let size = size-next c.loop-pass.workers.items w in
    let done = size-next c.loop-pass.yielded c.in-Some.pass in
    let at = next_at c.loop-pass.yielded _ _ _ c.in-Some.pass i.2 c.in-Some.ensures.steps.0 in
    let count = c.requires.new.all.count in (
      tt,
      tt,
      parts-next c.loop-pass.yielded _ _ _ c.in-Some.pass i.2 c.in-Some.ensures.steps.0,
      (let a = ap length pushed in let b = i.3 in omega (arith, a, b, size, done)),
      subst (λ l. (k : _) (v : _) → get_elem? l k ≡ some v → IsWorker c.args.shared.now c.args.grants c.args.start k v) (sym pushed)
          (each-next (λ k v. IsWorker c.args.shared.now c.args.grants c.args.start k v) c.loop-pass.workers.items w i.4 (record {
            home = ap (λ (s : StationState Setup GnapEntry). s.home) c.new.ensures.station;
            number = ap (λ (s : StationState Setup GnapEntry). s.number) c.new.ensures.station
                ∙ (c.requires.new.all.each (length c.loop-pass.yielded) c.in-Some.pass at).1 ∙ sym i.3;
            grants_are = c.new.ensures.share.0;
            start_is = c.new.ensures.share.1;
            workers_are = c.new.ensures.share.2 ∙ (let long = c.args.passes.ok in omega (arith, long, count));
            worker_is = c.new.ensures.share.3 ∙ (let long = c.loop-pass.workers.ok in omega (arith, long));
          })),
      (let a = c.in-Some.ensures.steps.1 in let b = ap length c.in-Some.ensures.steps.0 in let d = i.5 in omega (arith, a, b, d)),
    )
