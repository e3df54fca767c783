use Rattle.std.proofs.Common.{◌≡◌, drop}
use Rattle.structured_fields.specs.declared.display_reading.Awaits.TheVariants.{Character}
use Rattle.structured_fields.specs.Reading.{display_bytes}
use Rattle.structured_fields.proofs.Displays.{with_bytes}
use Rattle.structured_fields.proofs.display_reading.bytes_of.Given as goal

abbrev pub invariant-loop-c : goal.invariant-loop-c
invariant-loop-c l = with_bytes l.held (display_bytes l.awaits (drop l.c-index l.text)) ≡ display_bytes Character l.text
