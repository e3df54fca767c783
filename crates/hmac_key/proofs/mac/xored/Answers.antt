use Rattle.std.proofs.Common.{rules, bit_xor}
use Rattle.hmac_key.proofs.Mapped.{mapped}
use Rattle.hmac_key.proofs.mac.xored.Goals as goal

pub returns : goal.returns
returns c = mapped _ (λ b. bit_xor b c.args.pad) _ _ _ (λ x y after called. search rules) _ (search rules) c.map.ensures.items
