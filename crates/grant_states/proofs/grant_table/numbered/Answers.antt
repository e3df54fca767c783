use Rattle.std.proofs.Common.{arith}
use Rattle.std.proofs.lemmas.Bool.Decides.{nat_tests}
use Rattle.grant_states.proofs.Got.{got}
use Rattle.grant_states.proofs.grant_table.numbered.Goals as goal

pub returns-then-place-number : goal.returns-then-place-number
returns-then-place-number c =
    rw (got c.args.places.now c.args.at c.in-Some.place.now c.in-Some.ensures.lookup.1 c.in-Some.ensures.lookup.3.0) (grind (arith, nat_tests))

pub returns-else-place-number : goal.returns-else-place-number
returns-else-place-number c =
    rw (got c.args.places.now c.args.at c.in-Some.place.now c.in-Some.ensures.lookup.1 c.in-Some.ensures.lookup.3.0) (grind (arith, nat_tests))
