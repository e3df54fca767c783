use Rattle.std.proofs.Common.{◌≡◌, drop, false}
use Rattle.structured_fields.specs.Reading.{string_rest}
use Rattle.structured_fields.proofs.Runs.{with_front}
use Rattle.structured_fields.proofs.bare_reading.string_of.Given as goal

abbrev pub invariant-loop-i : goal.invariant-loop-i
invariant-loop-i l = with_front l.held (string_rest l.escaped (drop l.i l.rest)) ≡ string_rest false l.fn.bytes
