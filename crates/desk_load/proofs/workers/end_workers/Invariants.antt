use Rattle.std.proofs.Common.{◌≡◌, ◌++◌, ◌*◌, ◌≤◌, ◌^◌, length}
use Rattle.std.specs.Vec.Iter.{into_iter_items, into_iter_len}
use Rattle.desk_load.specs.Tallies.{counted_in}
use Rattle.desk_load.proofs.Joining.{HaveDoneSoFar}
use Rattle.desk_load.proofs.workers.end_workers.Given as goal

abbrev pub invariant-loop-worker : goal.invariant-loop-worker
invariant-loop-worker g l =
    (goal.iterator-loop-worker g).can_next l.worker-iterator
    × (goal.iterator-loop-worker g).is_finite l.worker-iterator
    × (l.yielded ++ into_iter_items l.worker-iterator ≡ l.fn.workers.items)
    × (length l.passes.items ≡ length l.yielded)
    × HaveDoneSoFar l.shared l.grants l.start l.passes.items l.total
    × (counted_in l.total ≤ length l.passes.items * 2 ^ 40)
    × (into_iter_len l.worker-iterator ≡ length (into_iter_items l.worker-iterator))
