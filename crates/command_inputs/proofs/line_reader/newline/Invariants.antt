use Rattle.std.proofs.Common.{take}
use Rattle.command_inputs.specs.Lines.{IsLine}
use Rattle.command_inputs.proofs.line_reader.newline.Given as goal

abbrev pub invariant-loop-at : goal.invariant-loop-at
invariant-loop-at l = IsLine (take l.at l.bytes)
