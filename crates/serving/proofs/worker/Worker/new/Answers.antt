use Rattle.std.proofs.Common.{ap, ◌∙◌}
use Rattle.serving.proofs.WorkerLemmas.{sound-start}
use Rattle.serving.proofs.worker.Worker.new.Goals as goal

pub invariant_of-result : goal.invariant_of-result
invariant_of-result g c =
    sound-start g.C.M.Machine.law (g.F.Front.session c.args.front.now) (g.F.Front.rules c.args.front.now)
    (record { front = c.args.front.now; station = c.new.result; gear = g.G.Counted.state c.args.gear })
    (ap (λ s. s.home.rules) c.new.ensures.station ∙ c.requires.rules) (ap (λ s. s.seen) c.new.ensures.station ∙ c.requires.unseen) c.requires.unused
    c.requires.room
