use Rattle.std.proofs.Common.{arith}
use Rattle.plain_text.proofs.PlainText.{one_more}
use Rattle.plain_text.proofs.plain_len_from.Goals as goal

pub plain-preserved : goal.plain-preserved
plain-preserved c =
    (omega arith, one_more c.args.bytes.now c.plain.len (omega arith) c.plain.invariant.1 (grind arith))
