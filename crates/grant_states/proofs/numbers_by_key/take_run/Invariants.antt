use Rattle.std.proofs.Common.{length, ◌-◌, ◌≡◌, ◌≤◌}
use Rattle.std.specs.Prelude.{vec_len, vec_capacity}
use Rattle.std.specs.List.Sorted.{IsNonDecreasingBy}
use Rattle.gnap_tables.proofs.Lists.{HasItem}
use Rattle.grant_states.specs.Listed.{key_of, IsStartOf}
use Rattle.grant_states.specs.declared.numbers_by_key.Listed.{Listed}
use Rattle.grant_states.proofs.numbers_by_key.take_run.Given as goal

abbrev pub invariant-loop-listed : goal.invariant-loop-listed
invariant-loop-listed l =
    (IsNonDecreasingBy key_of l.listed.items) × IsStartOf l.key l.listed.items l.first
    × ((one : Listed) → HasItem l.fn.listed.items one → (one.key ≡ l.key → ⊥) → HasItem l.listed.items one)
    × ((one : Listed) → HasItem l.listed.items one → HasItem l.fn.listed.items one)
    × (vec_len l.listed ≤ vec_len l.fn.listed) × (vec_capacity l.listed ≡ vec_capacity l.fn.listed)

abbrev pub decreases-loop-listed : goal.decreases-loop-listed
decreases-loop-listed l = length l.listed.items - l.first
