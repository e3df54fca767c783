use Rattle.std.proofs.Common.{length, ◌-◌, ◌≤◌, take}
use Rattle.plain_text.specs.PlainText.{IsPlain}
use Rattle.plain_text.proofs.plain_len.Given as goal

abbrev pub invariant-chunks : goal.invariant-chunks
invariant-chunks l = (l.len ≤ length l.bytes) × IsPlain (take l.len l.bytes)

abbrev pub decreases-chunks : goal.decreases-chunks
decreases-chunks l = length l.bytes - l.len
