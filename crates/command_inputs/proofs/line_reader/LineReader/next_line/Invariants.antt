use Rattle.std.proofs.Common.{◌≡◌, ◌+◌, ◌-◌, ◌≤◌, length}
use Rattle.command_inputs.specs.Reading.{held_by, Gathers}
use Rattle.command_inputs.proofs.line_reader.LineReader.next_line.Given as goal

abbrev pub invariant-loop-line : goal.invariant-loop-line
invariant-loop-line g l = record {
  short : length l.line ≤ l.limit + 1;
  gathers : Gathers l.limit l.line (held_by l.fn.self) (held_by l.self) l.fn.self.taken l.self.taken
      (g.S.Device.told l.fn.source) (g.S.Device.told l.source);
  same : g.S.Device.faults l.source ≡ g.S.Device.faults l.fn.source;
}

abbrev pub decreases-loop-line : goal.decreases-loop-line
decreases-loop-line g l = 1073741824 - l.self.taken
