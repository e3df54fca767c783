use Rattle.std.specs.Prelude.{◌≤◌, All}
use Rattle.bytes_and_lists.specs.Moments.{last_moment}
use Rattle.test_cases.proofs.world.moments.Given as goal

abbrev pub invariant-loop-moment : goal.invariant-loop-moment
invariant-loop-moment l = All (λ m. m ≤ last_moment) l.moments.items
