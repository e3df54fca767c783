use Rattle.std.proofs.Common.{arith}
use Rattle.structured_fields.proofs.SoleMember.{read_if_key}
use Rattle.structured_fields.proofs.sole_member.sole_bytes.Goals as goal

pub returns : goal.returns
returns c = λ is. read_if_key c.args.key.now c.args.text.now c.in_ok-coded_under.field-0.now c.decode.result c.ok.result
    (λ i. omega (arith, c.type_inv.text i)) c.in_ok-coded_under.ensures c.decode.ensures c.ok.ensures.value is
