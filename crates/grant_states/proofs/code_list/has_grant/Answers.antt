use Rattle.std.proofs.Common.{arith}
use Rattle.std.proofs.lemmas.Bool.Decides.{nat_tests}
use Rattle.grant_states.proofs.Got.{got}
use Rattle.grant_states.proofs.code_list.has_grant.Goals as goal

pub returns-then-one-code : goal.returns-then-one-code
returns-then-one-code c =
    rw (got c.args.listed.now c.args.at c.in-Some.one.now c.in-Some.ensures.lookup.1 c.in-Some.ensures.lookup.3.0) (grind (arith, nat_tests))

pub returns-else-one-code : goal.returns-else-one-code
returns-else-one-code c =
    rw (got c.args.listed.now c.args.at c.in-Some.one.now c.in-Some.ensures.lookup.1 c.in-Some.ensures.lookup.3.0) (grind (arith, nat_tests))
