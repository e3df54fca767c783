use Rattle.std.proofs.Common.{◌≡◌, ◌++◌, ℕ, length}
use mathlib.Core.Option.{some}
use lib.ListN.{get_elem?}
use Rattle.std.specs.Vec.Iter.{into_iter_items, into_iter_len}
use Rattle.desk_load.specs.Sharing.{IsWorker}
use Rattle.desk_load.proofs.workers.start_workers.Given as goal

abbrev pub invariant-loop-pass : goal.invariant-loop-pass
invariant-loop-pass g l =
    (goal.iterator-loop-pass g).can_next l.pass-iterator
    × (goal.iterator-loop-pass g).is_finite l.pass-iterator
    × (l.yielded ++ into_iter_items l.pass-iterator ≡ l.fn.passes.items)
    × (length l.workers.items ≡ length l.yielded)
    × ((k : ℕ) (w : _) → get_elem? l.workers.items k ≡ some w → IsWorker l.shared l.grants l.start k w)
    × (into_iter_len l.pass-iterator ≡ length (into_iter_items l.pass-iterator))
