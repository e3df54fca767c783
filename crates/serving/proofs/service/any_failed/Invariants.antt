use Rattle.std.proofs.Common.{◌≡◌, drop}
use Rattle.std.specs.List.{list_any}
use Rattle.serving.specs.ServiceEnds.{has_failed}
use Rattle.serving.proofs.service.any_failed.Given as goal

abbrev pub invariant-loop-gear : goal.invariant-loop-gear
invariant-loop-gear g l = list_any (λ gear. has_failed (g.G.Counted.state gear)) (drop l.gear-index l.gears)
    ≡ list_any (λ gear. has_failed (g.G.Counted.state gear)) l.gears
