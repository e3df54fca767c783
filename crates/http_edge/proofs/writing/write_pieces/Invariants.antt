use Rattle.std.proofs.Common.{◌≡◌, take}
use Rattle.http_edge.specs.Writes.{bytes_of_pieces, IsUnderWay}
use Rattle.http_edge.proofs.writing.write_pieces.Given as goal

abbrev pub invariant-loop-piece : goal.invariant-loop-piece
invariant-loop-piece g l = record {
  way : IsUnderWay (bytes_of_pieces (take l.piece-index l.pieces)) l.outgoing (g.S.Device.told l.fn.sink) (g.S.Device.told l.sink);
  kept : g.S.Device.faults l.sink ≡ g.S.Device.faults l.fn.sink;
}
