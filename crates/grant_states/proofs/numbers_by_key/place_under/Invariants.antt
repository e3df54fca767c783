use Rattle.std.proofs.Common.{length, ◌-◌, ◌≡◌, ◌<◌, ◌≤◌, get_or, ℕ}
use Rattle.grant_states.specs.Listed.{under}
use Rattle.grant_states.specs.declared.numbers_by_key.Listed.{Listed}
use Rattle.grant_states.proofs.numbers_by_key.place_under.Given as goal

abbrev pub invariant-loop-at : goal.invariant-loop-at
invariant-loop-at l =
    (l.initial.at ≤ l.at) × (l.at ≤ length l.listed) × ((i : ℕ) (d : Listed) → l.initial.at ≤ i → i < l.at → get_or l.listed i d ≡ under l.key l.number → ⊥)

abbrev pub decreases-loop-at : goal.decreases-loop-at
decreases-loop-at l = length l.listed - l.at
