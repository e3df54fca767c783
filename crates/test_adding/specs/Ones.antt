-- What workers make that each add 1, again and again, at one shared adding machine.
use Rattle.std.specs.Prelude.{◌≡◌, ℕ, ◌≤◌, List, length}
use mathlib.Core.Option.{some}
use lib.ListN.{get_elem?}
use Rattle.histories.specs.History.{Legal}
use Rattle.histories.specs.Steps.{NoneOf}
use Rattle.histories.specs.Whole.{own_of}
use Rattle.test_adding.specs.Adding.{adding}
use Rattle.test_adding.specs.Amounts.{AddingEntry, adds_in, IsWork}
use Rattle.shared_server.specs.Passes.{PassState}

-- With each pass the work of its number was seen.
pub record EachServed {R : Type 0} (times : ℕ) (passes : List (PassState R AddingEntry)) (answered : List ℕ) : Type 0 where
  pub each : (k n : ℕ) (p : PassState R AddingEntry) → get_elem? passes k ≡ some p → get_elem? answered k ≡ some n → IsWork 1 times n (own_of k p.seen)

-- There is one legal history of an adding machine that starts from 0. The entries of each worker in it are its work, with as many adds as
-- it had calls answered. Nobody else has any, and the total is how many add.
pub record AreSums (workers times : ℕ) (answered : List ℕ) (total : ℕ) : Type 0 where
  pub history : List AddingEntry
  pub legal : Legal adding 0 history
  pub count : length answered ≡ workers
  pub each : (k n : ℕ) → get_elem? answered k ≡ some n → IsWork 1 times n (own_of k history)
  pub others : (k : ℕ) → workers ≤ k → NoneOf k history
  pub total_is : total ≡ adds_in history
