use Rattle.std.specs.Prelude.{All}
use Rattle.gnap_io.specs.MemoryForms.{IsUnusedConn}
use Rattle.test_cases.proofs.world.connections.Given as goal

abbrev pub invariant-loop-place : goal.invariant-loop-place
invariant-loop-place l = All IsUnusedConn l.conns.items
