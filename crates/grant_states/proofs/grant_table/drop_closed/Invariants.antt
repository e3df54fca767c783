use Rattle.std.proofs.Common.{◌≡◌, ℕ, ◌<◌, ◌≤◌, [], get_or, length}
use Rattle.std.specs.Prelude.{filter}
use Rattle.grant_states.specs.declared.numbers_by_key.Listed.{Listed}
use Rattle.grant_states.specs.Grants.{is_round_open}
use Rattle.grant_states.proofs.grant_table.drop_closed.Given as goal

abbrev pub invariant-loop-i : goal.invariant-loop-i
invariant-loop-i l = record {
  many : length l.lists.items ≡ length l.fn.lists.items;
  dropped : (j : ℕ) → j < l.i → get_or l.lists.items j []
      ≡ filter (λ (one : Listed). is_round_open l.moment l.places one.number) (get_or l.fn.lists.items j []);
  rest : (j : ℕ) → l.i ≤ j → get_or l.lists.items j [] ≡ get_or l.fn.lists.items j [];
}
