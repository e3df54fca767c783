use Rattle.std.proofs.Common.{◌≡◌, ◌-◌, []}
use Rattle.command_inputs.specs.Reading.{held_by, Came}
use Rattle.command_inputs.proofs.whole_input.read_input.Given as goal

abbrev pub invariant-loop-reader : goal.invariant-loop-reader
invariant-loop-reader g l = record {
  held : held_by l.reader ≡ [];
  came : Came l.text 0 l.reader.taken (g.S.Device.told l.fn.source) (g.S.Device.told l.source);
  same : g.S.Device.faults l.source ≡ g.S.Device.faults l.fn.source;
}

abbrev pub decreases-loop-reader : goal.decreases-loop-reader
decreases-loop-reader g l = 1073741824 - l.reader.taken
