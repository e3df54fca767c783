use Rattle.std.proofs.Common.{◌∙◌, length, ap, sym, subst, arith}
use Rattle.desk_load.specs.Sharing.{AreWorkers}
use Rattle.desk_load.proofs.Joining.{EachIsSame, same_workers, written_back, all_back, is_load}
use Rattle.desk_load.proofs.workers.put_load.Goals as goal

pub end_workers-requires-clause-workers : goal.end_workers-requires-clause-workers
end_workers-requires-clause-workers g c =
    let made = c.in_ok-all.all in
    let value = c.as_mut_slice.ensures.value in
    let many = c.run_workers.ensures.many ∙ ap length value in
    subst (AreWorkers c.in-Ok.shared c.args.grants c.args.start)
    (sym (written_back made.len made.items c.run_workers.new.workers many (let a = made.ok in omega (arith, a))))
    (same_workers c.in-Ok.shared c.args.grants c.args.start made.items c.run_workers.new.workers
    (subst (λ l. EachIsSame l c.run_workers.new.workers) value c.run_workers.ensures.each) many c.in_ok-all.ensures)

pub take_back-requires : goal.take_back-requires
take_back-requires g c = record
    { all = all_back c.in-Ok.shared c.args.grants c.args.start c.in_ok-passes.passes.items c.in_ok-passes.tally c.in_ok-passes.ensures }

pub returns : goal.returns
returns g c =
    let h = c.take_back.ensures in
    is_load c.in-Ok.shared c.args.grants c.args.start c.args.workers c.in_ok-passes.passes.items c.in_ok-passes.tally h.0
    (c.in-Ok.ensures.ok.0 ∙ c.requires.rules) c.in-Ok.ensures.ok.1 c.in_ok-passes.ensures h.1 h.2
