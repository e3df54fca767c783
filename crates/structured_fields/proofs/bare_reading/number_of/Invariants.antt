use Rattle.std.proofs.Common.{◌≡◌, ◌<◌, ◌^◌, drop}
use Rattle.structured_fields.specs.Letters.{number, number_after}
use Rattle.structured_fields.proofs.bare_reading.number_of.Given as goal

abbrev pub invariant-loop-d : goal.invariant-loop-d
invariant-loop-d l = record {
  value : number_after l.n (drop l.d-index l.digits) ≡ number l.digits;
  bound : l.n < 10 ^ l.d-index;
}
