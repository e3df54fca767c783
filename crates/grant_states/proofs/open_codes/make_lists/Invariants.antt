use Rattle.std.proofs.Common.{◌≡◌, ℕ, [], get_or}
use Rattle.grant_states.proofs.open_codes.make_lists.Given as goal

abbrev pub invariant-loop : goal.invariant-loop
invariant-loop l = (i : ℕ) → get_or l.lists.items i [] ≡ get_or l.fn.lists.items i []
