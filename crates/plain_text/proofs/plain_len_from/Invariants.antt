use Rattle.std.proofs.Common.{length, ◌-◌, ◌≤◌, take}
use Rattle.plain_text.specs.PlainText.{IsPlain}
use Rattle.plain_text.proofs.plain_len_from.Given as goal

abbrev pub invariant-plain : goal.invariant-plain
invariant-plain l = (l.len ≤ length l.bytes) × IsPlain (take l.len l.bytes)

abbrev pub decreases-plain : goal.decreases-plain
decreases-plain l = length l.bytes - l.len
