use Rattle.std.proofs.Common.{◌≡◌, ◌+◌, ◌-◌, [], length}
use Rattle.command_inputs.specs.Reading.{held_by}
use Rattle.script_runs.specs.Scripts.{ScriptGoes}
use Rattle.script_runs.proofs.scripts.run_lines.Given as goal

abbrev pub invariant-lines : goal.invariant-lines
invariant-lines g l = record {
  empty : l.line ≡ [];
  goes : ScriptGoes l.fn.client (g.L.Link.link l.fn.link).asked l.client (g.L.Link.link l.link).asked l.fine l.number (held_by l.fn.reader) (held_by l.reader)
      l.fn.reader.taken l.reader.taken
      (g.S.Device.told l.fn.source) (g.S.Device.told l.source) (g.O.Device.told l.fn.out) (g.O.Device.told l.out);
  reads : g.S.Device.faults l.source ≡ g.S.Device.faults l.fn.source;
  writes : g.O.Device.faults l.out ≡ g.O.Device.faults l.fn.out;
}

abbrev pub decreases-lines : goal.decreases-lines
decreases-lines g l = 1073741824 + length (held_by l.reader) - l.reader.taken
