use Rattle.std.proofs.Common.{◌≡◌}
use Rattle.grant_states.proofs.open_codes.reserve_lists.Given as goal

abbrev pub invariant-loop-i : goal.invariant-loop-i
invariant-loop-i l = l.lists.items ≡ l.fn.lists.items
