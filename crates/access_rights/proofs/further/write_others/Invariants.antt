use Rattle.std.proofs.Common.{◌≡◌}
use Rattle.access_rights.specs.Reading.{others}
use Rattle.access_rights.proofs.WrittenParts.{EndsMembers}
use Rattle.access_rights.proofs.further.write_others.Given as goal

abbrev pub invariant-loop-key : goal.invariant-loop-key
invariant-loop-key l = (l.out.before ≡ l.initial.out.before) × EndsMembers others l.members.entries l.key-iterator l.initial.out.tokens l.out.tokens
