use Rattle.std.proofs.Common.{◌≡◌, ◌↔◌, take}
use Rattle.hmac_key.proofs.mac.differences.Given as goal

abbrev pub invariant-loop-i : goal.invariant-loop-i
invariant-loop-i l = (l.seen ≡ 0) ↔ (take l.i l.a ≡ take l.i l.b)
