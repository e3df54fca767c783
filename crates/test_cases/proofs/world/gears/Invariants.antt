use Rattle.std.specs.Prelude.{All}
use Rattle.outside.specs.Gears.{IsUnused}
use Rattle.gnap_io.specs.MemoryForms.{gear_state}
use Rattle.test_cases.proofs.world.gears.Given as goal

abbrev pub invariant-loop-given : goal.invariant-loop-given
invariant-loop-given l = All (λ gear. IsUnused (gear_state gear)) l.gears.items
