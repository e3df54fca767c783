use Rattle.std.proofs.Common.{◌≡◌, ◌++◌, take}
use Rattle.std.specs.Prelude.{flat_map, option_copied}
use Rattle.outside.specs.Outside.{Writes}
use Rattle.command_words.specs.Hints.{line_for}
use Rattle.command_words.proofs.ToldTexts.{bytes_of}
use Rattle.command_words.proofs.word_hints.tell_with_lines.Given as goal

abbrev pub invariant-loop-line : goal.invariant-loop-line
invariant-loop-line g l = record {
  written : Writes (bytes_of l.pieces ++ flat_map (λ line. line_for (option_copied l.name) line.now) (take l.line-index l.lines))
      (g.E.Device.told l.fn.err) (g.E.Device.told l.err);
  same : g.E.Device.faults l.err ≡ g.E.Device.faults l.fn.err;
}
