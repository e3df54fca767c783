use Rattle.std.proofs.Common.{◌≡◌, ◌∙◌, ℕ, [], ◌∷◌, ◌++◌, length, map, ap, sym, subst, arith, All, length-append}
use mathlib.Core.Option.{some}
use lib.ListN.{get_elem?}
use Rattle.std.specs.Vec.Iter.{into_iter_items}
use Rattle.std.proofs.lemmas.List.{nil_from_length, map-append, append-nil, length-map}
use Rattle.std.proofs.lemmas.List.Elements.{All-push}
use Rattle.shared_server.specs.Passes.{IsPassOf}
use Rattle.serving.proofs.Starting.{next_at, parts-next, size-next, each-next, accounts-next, account_as, map-next}
use Rattle.serving.proofs.threads.end_workers.Goals as goal

pub loop-worker-preserved : goal.loop-worker-preserved
loop-worker-preserved g c =
    let i = c.loop-worker.invariant in
    let state = g.G.Counted.state in
    let w = c.in-Some.worker in
    let pass = c.leave-pass.result.0 in
    let gear = c.leave-pass.result.1 in
    let pushed = c.push_reserved.ensures.items in
    let gears = c.push_reserved-in-loop-worker.ensures.items in
    let at = next_at c.loop-worker.yielded _ _ _ w i.2 c.in-Some.ensures.steps.0 in
    let placed = c.requires.workers.each (length c.loop-worker.yielded) w at in
    let done = size-next c.loop-worker.yielded w in
    let size = size-next c.loop-worker.passes.items pass in
    let place : pass.number ≡ length c.loop-worker.passes.items = c.leave-pass.ensures.number ∙ placed.1 ∙ sym i.4 in
    let session = g.F.Front.session in
    let made = map-next state c.loop-worker.gears.items c.push_reserved-in-loop-worker.new.self.items gear gears in
    let account = account_as session w.front c.args.front.now w.gear.log (state gear).log w.station.number (length c.loop-worker.passes.items) pass.seen
    placed.2 (sym (ap (λ s. s.log) c.leave-pass.ensures.gear)) (placed.1 ∙ sym i.4) c.leave-pass.ensures.account in (
      tt,
      tt,
      parts-next c.loop-worker.yielded _ _ _ w i.2 c.in-Some.ensures.steps.0,
      made ∙ ap (λ l. l ++ state gear ∷ []) i.3 ∙ ap (λ s. map (λ worker. worker.gear) c.loop-worker.yielded ++ s ∷ []) c.leave-pass.ensures.gear
          ∙ sym (map-append (λ worker. worker.gear) c.loop-worker.yielded (w ∷ [])),
      (let a = ap length pushed in let b = i.4 in omega (arith, a, b, size, done)),
      (let a = i.5 in let b = ap length c.in-Some.ensures.steps.0 in let d = c.push_reserved.ensures.capacity in omega (arith, a, b, d, done)),
      (let a = i.6 in let b = ap length c.in-Some.ensures.steps.0 in let d = c.push_reserved-in-loop-worker.ensures.capacity in omega (arith, a, b, d, done)),
      subst (λ l. (k : ℕ) (p : _) → get_elem? l k ≡ some p → IsPassOf c.args.shared.now p × (p.number ≡ k)) (sym pushed)
          (each-next (λ k p. IsPassOf c.args.shared.now p × (p.number ≡ k)) c.loop-worker.passes.items pass i.7
          (subst (λ h. IsPassOf h pass) placed.0 c.leave-pass.ensures.of, place)),
      subst (All (λ g'. (state g').out ≡ 0)) (sym gears)
          (All-push (λ g'. (state g').out ≡ 0) c.loop-worker.gears.items gear i.8 (ap (λ s. s.out) c.leave-pass.ensures.gear ∙ c.leave-pass.ensures.out)),
      accounts-next (session c.args.front.now) state (λ p. p.seen) c.loop-worker.gears.items _ gear c.loop-worker.passes.items _ pass gears pushed i.9 account,
      (let a = c.in-Some.ensures.steps.1 in let b = ap length c.in-Some.ensures.steps.0 in let d = i.10 in omega (arith, a, b, d)),
    )

pub push_reserved-requires : goal.push_reserved-requires
push_reserved-requires g c =
    let i = c.loop-worker.invariant in
    let long = c.loop-worker.passes.ok in
    let left = ap length c.in-Some.ensures.steps.0 in
    let many = i.4 in
    let room = i.5 in
    omega (arith, long, left, many, room)

pub push_reserved-requires-in-loop-worker : goal.push_reserved-requires-in-loop-worker
push_reserved-requires-in-loop-worker g c =
    let i = c.loop-worker.invariant in
    let long = c.loop-worker.gears.ok in
    let left = ap length c.in-Some.ensures.steps.0 in
    let many = sym (length-map c.loop-worker.gears.items g.G.Counted.state) ∙ ap length i.3 ∙ length-map c.loop-worker.yielded (λ worker. worker.gear) in
    let room = i.6 in
    omega (arith, long, left, many, room)

pub returns-clause-passes : goal.returns-clause-passes
returns-clause-passes g c =
    let i = c.loop-worker.invariant in
    record {
      count = (
          let none = sym i.10 ∙ c.in-None.ensures.steps.0 in
          let all = ap length i.2 in
          let parts = length-append c.loop-worker.yielded (into_iter_items c.loop-worker.worker-iterator) in
          let many = i.4 in
          let count = c.requires.workers.count in
          omega (arith, none, all, parts, many, count));
      each = i.7;
    }

pub returns-clause-gears : goal.returns-clause-gears
returns-clause-gears g c =
    let i = c.loop-worker.invariant in
    let none : into_iter_items c.loop-worker.worker-iterator
    ≡ [] = nil_from_length (into_iter_items c.loop-worker.worker-iterator) (sym i.10 ∙ c.in-None.ensures.steps.0) in
    i.3 ∙ ap (map (λ worker. worker.gear)) (sym (append-nil c.loop-worker.yielded) ∙ ap (λ l. c.loop-worker.yielded ++ l) (sym none) ∙ i.2)

pub returns-clause-out : goal.returns-clause-out
returns-clause-out g c = c.loop-worker.invariant.8

pub returns-clause-accounts : goal.returns-clause-accounts
returns-clause-accounts g c = c.loop-worker.invariant.9
