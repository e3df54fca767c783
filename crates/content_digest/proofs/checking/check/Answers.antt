use Rattle.std.proofs.Common.{arith}
use Rattle.content_digest.proofs.Judging.{answer_says, answer_only}
use Rattle.content_digest.proofs.checking.check.Goals as goal

pub returns-clause-says : goal.returns-clause-says
returns-clause-says c = λ apart. answer_says c.args.field.now c.args.body.now c.judge_field.result (λ i. omega (arith, c.type_inv.field i))
    c.judge_field.ensures apart

pub returns-clause-only : goal.returns-clause-only
returns-clause-only c = answer_only c.args.field.now c.args.body.now c.judge_field.result (λ i. omega (arith, c.type_inv.field i)) c.judge_field.ensures
