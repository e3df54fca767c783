use Rattle.std.proofs.Common.{◌≡◌, ◌-◌, ◌+◌, ◌⊎◌, length, true, cond}
use Rattle.outside.specs.Outside.{IsAtEnd}
use Rattle.http_edge.specs.Limits.{message_limit}
use Rattle.http_edge.specs.Streams.{IsOpen}
use Rattle.http_edge.specs.Steps.{Grows}
use Rattle.http_edge.proofs.reading.next_message.Given as goal

abbrev pub invariant-loop-held : goal.invariant-loop-held
invariant-loop-held g l = record {
  grows : Grows l.fn.held l.held (g.S.Device.told l.fn.source) (g.S.Device.told l.source);
  kept : g.S.Device.faults l.source ≡ g.S.Device.faults l.fn.source;
  end : l.ended ≡ true → IsAtEnd (g.S.Device.told l.source);
  needed : ((l.held ≡ l.fn.held) × (g.S.Device.told l.source ≡ g.S.Device.told l.fn.source)) ⊎ IsOpen l.fn.held;
}

abbrev pub decreases-loop-held : goal.decreases-loop-held
decreases-loop-held g l = (message_limit - length l.held) + cond l.ended 0 1
