-- Which calls of one kind fail, by their numbers.
use Rattle.std.specs.Prelude.{ℕ, Bool, ◌==◌, List}
use Rattle.std.specs.List.{list_any}
use Rattle.outside.specs.Outside.{one_more}

-- How many calls were made, and the numbers, counted from 1, of those that fail.
pub record Plan : Type 0 where
  pub made : ℕ
  pub bad : List ℕ

abbrev pub new_plan : List ℕ → Plan
new_plan bad = record { made = 0; bad = bad }

-- whether the next call is to fail
abbrev pub is_bad : Plan → Bool
is_bad plan = list_any (λ number. number == one_more plan.made) plan.bad

-- one more call was made
abbrev pub called : Plan → Plan
called plan = record plan { made = one_more plan.made }
