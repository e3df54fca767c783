-- Numbers under keys.
use Rattle.std.specs.Prelude.{ℕ, ◌≡◌, ◌<◌, ◌==◌, nat_lt, nat_le, List, Bool, true, false, option_map}
use Rattle.std.specs.Option.{option_and_then}
use Rattle.std.specs.List.{AllPairs}
use Rattle.std.specs.List.Sorted.{IsPartitionPoint}
use Rattle.std.specs.declared.option.Option.{Option}
use Rattle.std.specs.declared.option.Option.TheVariants.{None, Some}
use Rattle.gnap_model.specs.Common.{some_if}
use Rattle.grant_states.specs.declared.numbers_by_key.Listed.{Listed}

-- what contracts see of numbers that are listed under keys, and room for so many more
pub record ListedNumbers : Type 0 where
  pub listed : List Listed
  pub spare : ℕ

abbrev pub under : ℕ → ℕ → Listed
under key number = record { key = key; number = number }

abbrev pub key_of : Listed → ℕ
key_of one = one.key

-- the keys ascend
abbrev pub Ascend : List Listed → Type 0
Ascend listed = AllPairs (λ (a b : Listed). a.key < b.key) listed

-- what stands below the place has lower keys, and what stands from there on has none
abbrev pub IsStartOf : ℕ → List Listed → ℕ → Type 0
IsStartOf key listed at = IsPartitionPoint (λ (one : Listed). nat_lt (key_of one) key ≡ true) (λ (one : Listed). nat_lt (key_of one) key ≡ false) listed at

-- what stands below the place has lower keys or this one, and what stands from there on has neither
abbrev pub IsEndOf : ℕ → List Listed → ℕ → Type 0
IsEndOf key listed at = IsPartitionPoint (λ (one : Listed). nat_le (key_of one) key ≡ true) (λ (one : Listed). nat_le (key_of one) key ≡ false) listed at

-- the number of what is there, where it has this key
abbrev pub number_where : ℕ → Option Listed → Option ℕ
number_where key there = option_map (λ (one : Listed). one.number) (option_and_then (λ (one : Listed). some_if (one.key == key) one) there)

-- the test of what is there, and false where nothing is
abbrev pub where_some : {A : Type 0} → (A → Bool) → Option A → Bool
where_some test None = false
where_some test (Some x) = test x
