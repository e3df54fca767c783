use Rattle.std.proofs.Common.{◌-◌, length}
use Rattle.http_edge.specs.Limits.{message_limit}
use Rattle.http_edge.specs.Steps.{EndsAt}
use Rattle.http_edge.proofs.Growing.{HasRead}
use Rattle.http_edge.proofs.reading.read_body.Given as goal

abbrev pub invariant-loop-held : goal.invariant-loop-held
invariant-loop-held g l = record {
  so_far : HasRead l.fn.held l.held (g.S.Device.told l.fn.source) (g.S.Device.told l.source) (g.S.Device.faults l.fn.source) (g.S.Device.faults l.source);
  waiting : EndsAt l.held l.end;
}

abbrev pub decreases-loop-held : goal.decreases-loop-held
decreases-loop-held g l = message_limit - length l.held
