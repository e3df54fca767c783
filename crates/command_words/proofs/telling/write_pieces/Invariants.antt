use Rattle.std.proofs.Common.{◌≡◌, take}
use Rattle.outside.specs.Outside.{Writes}
use Rattle.command_words.proofs.ToldTexts.{bytes_of}
use Rattle.command_words.proofs.telling.write_pieces.Given as goal

abbrev pub invariant-loop-piece : goal.invariant-loop-piece
invariant-loop-piece g l = record {
  written : Writes (bytes_of (take l.piece-index l.pieces)) (g.E.Device.told l.fn.err) (g.E.Device.told l.err);
  same : g.E.Device.faults l.err ≡ g.E.Device.faults l.fn.err;
}
