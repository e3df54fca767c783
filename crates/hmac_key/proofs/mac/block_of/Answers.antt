use Rattle.hmac_key.proofs.Blocks.{fits}
use Rattle.hmac_key.proofs.mac.block_of.Goals as goal

pub returns-else-key-gt-BLOCK_LEN : goal.returns-else-key-gt-BLOCK_LEN
returns-else-key-gt-BLOCK_LEN c = rw c.copy_from_slice-else-key-gt-BLOCK_LEN.ensures.after (fits c.args.key.now c.if-key-gt-BLOCK_LEN.false)
