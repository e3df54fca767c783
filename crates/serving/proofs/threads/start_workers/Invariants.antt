use Rattle.std.proofs.Common.{◌≡◌, ◌++◌, ◌+◌, ◌≤◌, ℕ, [], All, map, length, vec_len, vec_capacity}
use mathlib.Core.Option.{some}
use lib.ListN.{get_elem?}
use Rattle.outside.specs.Gears.{IsUnused}
use Rattle.shared_server.specs.Passes.{IsPassOf}
use Rattle.serving.specs.Workers.{ArePlaced}
use Rattle.serving.proofs.threads.start_workers.Given as goal

abbrev pub invariant-loop-alloc : goal.invariant-loop-alloc
invariant-loop-alloc g l = record {
  parts : map (λ worker. worker.gear) l.workers.items ++ map g.G.Counted.state l.gears.items ≡ map g.G.Counted.state l.fn.gears.items;
  many : length l.gears.items ≡ length l.passes.items;
  count : length l.workers.items + length l.passes.items ≡ l.shared.count;
  room : length l.workers.items + length l.passes.items ≤ vec_capacity l.workers;
  placed : ArePlaced l.shared l.front l.workers.items;
  waiting : (k : ℕ) (p : _) → get_elem? l.passes.items k ≡ some p
      → IsPassOf l.shared p × (p.number ≡ length l.workers.items + k) × (p.seen ≡ []);
  unused : All (λ gear. IsUnused (g.G.Counted.state gear)) l.gears.items;
  within : All (λ gear. (g.G.Counted.state gear).left ≤ 4294967295) l.gears.items;
  passes_room : l.shared.count ≤ vec_capacity l.passes;
  gears_room : l.shared.count ≤ vec_capacity l.gears;
}

abbrev pub decreases-loop-alloc : goal.decreases-loop-alloc
decreases-loop-alloc g l = vec_len l.gears
