use Rattle.std.specs.Prelude.{◌≤◌, All}
use Rattle.outside.specs.Gears.{IsUnused}
use Rattle.gnap_io.specs.MemoryForms.{gear_state}
use Rattle.test_cases.proofs.ordered_gears.gears_in_order.Given as goal

abbrev pub invariant-loop-place : goal.invariant-loop-place
invariant-loop-place l = All (λ ordered. IsUnused (gear_state ordered.gear)) l.gears.items
    × All (λ ordered. (gear_state ordered.gear).left ≤ 4294967295) l.gears.items
