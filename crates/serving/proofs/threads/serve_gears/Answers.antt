use Rattle.std.proofs.Common.{◌∙◌, map, length, ap, sym, subst, arith}
use Rattle.std.proofs.lemmas.List.{length-map}
use Rattle.serving.specs.Workers.{AreWorkers, HaveServedAll}
use Rattle.serving.proofs.Ending.{EachDrained, same_workers, all_done, one_unused, one_of_all, written_back}
use Rattle.serving.proofs.threads.serve_gears.Goals as goal

pub returns-in_default-clause-one : goal.returns-in_default-clause-one
returns-in_default-clause-one g c =
    one_unused g.C.M.Machine.law (g.F.Front.session c.args.front.now) g.G.Counted.state c.args.gears.items (g.F.Front.rules c.args.front.now) c.requires.unused

pub returns-in_default-with_capacity-clause-one : goal.returns-in_default-with_capacity-clause-one
returns-in_default-with_capacity-clause-one g c =
    one_unused g.C.M.Machine.law (g.F.Front.session c.args.front.now) g.G.Counted.state c.args.gears.items (g.F.Front.rules c.args.front.now) c.requires.unused

pub end_workers-requires-clause-workers : goal.end_workers-requires-clause-workers
end_workers-requires-clause-workers g c κs within =
    let made = c.start_workers-workers.result in
    let value = c.as_mut_slice.ensures.value in
    let many = c.serve_workers.ensures.many ∙ ap length value in
    subst (AreWorkers c.in-Ok.shared c.args.front.now)
    (sym (written_back made.len made.items c.serve_workers.new.workers many (let a = made.ok in omega (arith, a))))
    (same_workers c.in-Ok.shared c.args.front.now made.items c.serve_workers.new.workers
    (subst (λ l. EachDrained l c.serve_workers.new.workers) value c.serve_workers.ensures.each) many c.start_workers-workers.ensures.workers)

pub end_workers-requires-clause-room : goal.end_workers-requires-clause-room
end_workers-requires-clause-room g c κs within =
    let made = c.start_workers-workers.result in
    let many = c.serve_workers.ensures.many ∙ ap length c.as_mut_slice.ensures.value in
    let back = ap length (written_back made.len made.items c.serve_workers.new.workers many (let a = made.ok in omega (arith, a))) in
    let room = c.start_workers-workers.ensures.room in
    let to_passes = room.2 in
    let to_gears = room.3 in
    (room.0, room.1, omega (arith, back, many, to_passes), omega (arith, back, many, to_gears))

pub returns-clause-one : goal.returns-clause-one
returns-clause-one g c =
    let h = c.close_all.ensures in
    one_of_all g.C.M.Machine.law (g.F.Front.session c.args.front.now) (g.F.Front.rules c.args.front.now) c.in-Ok.shared.rules
    (map g.G.Counted.state c.end_workers.new.gears.items) (map (λ p. p.seen) c.end_workers.new.passes.items) h.0
    (c.in-Ok.ensures.ok.0 ∙ c.requires.rules) c.end_workers.ensures.accounts h.2 h.1

pub returns-clause-many : goal.returns-clause-many
returns-clause-many g c =
    let made = c.start_workers-workers.result in
    let value = c.as_mut_slice.ensures.value in
    let many = c.serve_workers.ensures.many ∙ ap length value in
    let back = written_back made.len made.items c.serve_workers.new.workers many (let a = made.ok in omega (arith, a)) in
    let gears = ap length c.end_workers.ensures.gears in
    let workers = ap length c.start_workers-workers.ensures.gears in
    let a = length-map c.end_workers.new.gears.items g.G.Counted.state in
    let b = length-map c.args.gears.items g.G.Counted.state in
    let d = length-map made.items (λ w. w.gear) in
    let e = ap (λ l. length (map (λ w. w.gear) l)) back in
    let f = length-map c.serve_workers.new.workers (λ w. w.gear) in
    sym a ∙ gears ∙ e ∙ f ∙ many ∙ sym d ∙ workers ∙ b

pub returns-clause-done : goal.returns-clause-done
returns-clause-done g c = λ _.
    let made = c.start_workers-workers.result in
    let value = c.as_mut_slice.ensures.value in
    let many = c.serve_workers.ensures.many ∙ ap length value in
    let back = written_back made.len made.items c.serve_workers.new.workers many (let a = made.ok in omega (arith, a)) in
    let after = c.end_workers.ensures.gears ∙ ap (map (λ w. w.gear)) back in
    let done = all_done made.items c.serve_workers.new.workers (subst (λ l. EachDrained l c.serve_workers.new.workers) value c.serve_workers.ensures.each)
    many in
    subst (λ l. HaveServedAll (map g.G.Counted.state c.args.gears.items) l) (sym after)
    (subst (λ l. HaveServedAll l (map (λ w. w.gear) c.serve_workers.new.workers)) c.start_workers-workers.ensures.gears done)
