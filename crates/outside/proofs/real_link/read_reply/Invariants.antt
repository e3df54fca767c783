use Rattle.std.proofs.Common.{◌≤◌, length}
use Rattle.outside.specs.Outside.{Takes}
use Rattle.outside.proofs.real_link.read_reply.Given as goal

abbrev pub invariant-loop : goal.invariant-loop
invariant-loop g l = record {
  took : Takes l.reply (g.S.Device.told l.initial.source) (g.S.Device.told l.source);
  few : length l.reply ≤ 1048576;
}
