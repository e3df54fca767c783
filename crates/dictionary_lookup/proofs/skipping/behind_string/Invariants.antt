use Rattle.std.proofs.Common.{◌≡◌, drop, false}
use Rattle.dictionary_lookup.specs.Skipping.{rest_of}
use Rattle.structured_fields.specs.Reading.{string_rest}
use Rattle.dictionary_lookup.proofs.skipping.behind_string.Given as goal

abbrev pub invariant-loop-i : goal.invariant-loop-i
invariant-loop-i l = rest_of (string_rest l.escaped (drop l.i l.rest)) ≡ rest_of (string_rest false l.fn.bytes)
