use Rattle.std.proofs.Common.{◌≡◌, ◌+◌, ◌-◌, [], length}
use Rattle.command_inputs.specs.Reading.{held_by}
use Rattle.call_replay.specs.Replays.{first_call_line}
use Rattle.call_replay.specs.Replaying.{Goes}
use Rattle.call_replay.proofs.replaying.replay_lines.Given as goal

abbrev pub invariant-lines : goal.invariant-lines
invariant-lines g l = record {
  rules : g.D.Desk.rules l.desk ≡ g.D.Desk.rules l.fn.desk;
  number : g.D.Desk.number l.desk ≡ g.D.Desk.number l.fn.desk;
  empty : l.line ≡ [];
  goes : Goes l.setup (g.D.Desk.number l.fn.desk) (g.D.Desk.seen l.desk) (held_by l.fn.reader) (held_by l.reader) l.fn.reader.taken l.reader.taken
      (g.S.Device.told l.fn.source) (g.S.Device.told l.source) (g.O.Device.told l.fn.out) (g.O.Device.told l.out);
  line_number : l.number ≡ first_call_line + length goes.turns;
  reads : g.S.Device.faults l.source ≡ g.S.Device.faults l.fn.source;
  writes : g.O.Device.faults l.out ≡ g.O.Device.faults l.fn.out;
}

abbrev pub decreases-lines : goal.decreases-lines
decreases-lines g l = 1073741824 + length (held_by l.reader) - l.reader.taken
