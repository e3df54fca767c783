use Rattle.std.proofs.Common.{◌≡◌, ◌-◌, ◌<◌, ◌≤◌, length}
use Rattle.std.specs.List.{fold}
use Rattle.http_edge.specs.declared.places.LinePlace.TheVariants.{BlankLines}
use Rattle.http_edge.specs.Limits.{head_limit, message_limit}
use Rattle.http_edge.specs.Streams.{HasNoMessage}
use Rattle.http_edge.specs.Steps.{next_line_place}
use Rattle.http_edge.proofs.Growing.{HasRead}
use Rattle.http_edge.proofs.reading.read_head.Given as goal

abbrev pub invariant-loop-held : goal.invariant-loop-held
invariant-loop-held g l = record {
  so_far : HasRead l.fn.held l.held (g.S.Device.told l.fn.source) (g.S.Device.told l.source) (g.S.Device.faults l.fn.source) (g.S.Device.faults l.source);
  waiting : HasNoMessage l.held;
  place : l.place ≡ fold next_line_place BlankLines l.held;
  short : length l.held < head_limit;
  enough : l.enough ≤ head_limit;
}

abbrev pub decreases-loop-held : goal.decreases-loop-held
decreases-loop-held g l = message_limit - length l.held
