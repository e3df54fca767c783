use Rattle.std.proofs.Common.{◌≡◌, ◌++◌, ◌+◌, ◌≤◌, ℕ, All, map, length, vec_capacity}
use mathlib.Core.Option.{some}
use lib.ListN.{get_elem?}
use Rattle.std.specs.Vec.Iter.{into_iter_items, into_iter_len}
use Rattle.histories.specs.Whole.{AllKeep}
use Rattle.shared_server.specs.Passes.{IsPassOf}
use Rattle.serving.specs.Workers.{accounts_of}
use Rattle.serving.proofs.threads.end_workers.Given as goal

abbrev pub invariant-loop-worker : goal.invariant-loop-worker
invariant-loop-worker g l =
    (goal.iterator-loop-worker g).can_next l.worker-iterator
    × (goal.iterator-loop-worker g).is_finite l.worker-iterator
    × (l.yielded ++ into_iter_items l.worker-iterator ≡ l.fn.workers.items)
    × (map g.G.Counted.state l.gears.items ≡ map (λ worker. worker.gear) l.yielded)
    × (length l.passes.items ≡ length l.yielded)
    × (length l.yielded + length (into_iter_items l.worker-iterator) ≤ vec_capacity l.passes)
    × (length l.yielded + length (into_iter_items l.worker-iterator) ≤ vec_capacity l.gears)
    × ((k : ℕ) (p : _) → get_elem? l.passes.items k ≡ some p → IsPassOf l.shared p × (p.number ≡ k))
    × All (λ gear. (g.G.Counted.state gear).out ≡ 0) l.gears.items
    × AllKeep 0 (accounts_of (g.F.Front.session l.front) (map g.G.Counted.state l.gears.items)) (map (λ pass. pass.seen) l.passes.items)
    × (into_iter_len l.worker-iterator ≡ length (into_iter_items l.worker-iterator))
