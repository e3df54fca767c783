-- Numbers in order, and the place of a number among them.
use Rattle.std.specs.Prelude.{ℕ, ◌<◌, ◌≤◌, List, length, slice_index}

-- each is below the next ones
abbrev pub IsAscending : List ℕ → Type 0
IsAscending keys = (i j : ℕ) → i < j → j < length keys → slice_index keys i < slice_index keys j

-- so many of the keys, the first ones, are below this key
pub record IsPlaceOf (key : ℕ) (keys : List ℕ) (place : ℕ) : Type 0 where
  pub within : place ≤ length keys
  pub below : (i : ℕ) → i < place → slice_index keys i < key
  pub above : (i : ℕ) → place ≤ i → i < length keys → key ≤ slice_index keys i
