use Rattle.std.proofs.Common.{arith}
use Rattle.test_adding.proofs.Passing.{may_work, all_again, each_served, ok_both}
use Rattle.test_adding.proofs.serve.serve_all.Goals as goal

pub map_vec-requires-after_bounds : goal.map_vec-requires-after_bounds
map_vec-requires-after_bounds g c κs within = λ i x lt is.
    let may = may_work c.args.shared.now c.args.passes.items c.requires.new c.args.times i x lt is c.requires.room in
    (may.0, may.1)

pub returns-clause-all : goal.returns-clause-all
returns-clause-all g c = ok_both c.map_vec.result _ _ _ c.map_vec.ensures.len c.map_vec.ensures.each (λ v long each.
    all_again c.args.shared.now c.args.passes.items c.requires.new c.args.times (λ s. s.pass) (λ s. s.made) v.items
    (let a = v.ok in let b = c.args.passes.ok in omega (arith, long, a, b))
    (λ k d lt. let came = each k d lt in (came.1.job, came.1.job_is came.1.job, came.1.call.met)))

pub returns-clause-made : goal.returns-clause-made
returns-clause-made g c = ok_both c.map_vec.result _ _ _ c.map_vec.ensures.len c.map_vec.ensures.each (λ v long each.
    each_served c.args.shared.now c.args.passes.items c.requires.new c.args.times (λ s. s.pass) (λ s. s.made) v.items
    (let a = v.ok in let b = c.args.passes.ok in omega (arith, long, a, b))
    (λ k d lt. let came = each k d lt in (came.1.job, came.1.job_is came.1.job, came.1.call.met)))
