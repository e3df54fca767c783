use Rattle.std.proofs.Common.{◌-◌, length}
use Rattle.structured_fields.specs.Reading.{params_at}
use Rattle.dictionary_lookup.proofs.Behind.{ParamsSoFar}
use Rattle.dictionary_lookup.proofs.skipping.params_matched.Given as goal

abbrev pub invariant-loop : goal.invariant-loop
invariant-loop l = ParamsSoFar l.name l.s l.matched (length l.bytes - l.counter) l.left (params_at l.bytes)
