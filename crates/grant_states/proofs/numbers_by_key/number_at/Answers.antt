use Rattle.std.proofs.Common.{arith}
use Rattle.std.proofs.lemmas.Bool.Decides.{nat_tests}
use Rattle.grant_states.proofs.Got.{got}
use Rattle.grant_states.proofs.numbers_by_key.number_at.Goals as goal

pub returns-then-one-key : goal.returns-then-one-key
returns-then-one-key c =
    rw (got c.args.listed.now c.args.at c.in-Some.one.now c.in-Some.ensures.lookup.1 c.in-Some.ensures.lookup.3.0) (grind (arith, nat_tests))

pub returns-else-one-key : goal.returns-else-one-key
returns-else-one-key c =
    rw (got c.args.listed.now c.args.at c.in-Some.one.now c.in-Some.ensures.lookup.1 c.in-Some.ensures.lookup.3.0) (grind (arith, nat_tests))
