use Rattle.std.proofs.Common.{arith}
use Rattle.hmac_key.proofs.Differences.{differences_more}
use Rattle.hmac_key.proofs.mac.differences.Goals as goal

pub loop-i-preserved : goal.loop-i-preserved
loop-i-preserved c = differences_more c.args.a.now c.args.b.now c.loop-i.seen c.loop-i.i (omega arith) (omega arith) c.loop-i.invariant
