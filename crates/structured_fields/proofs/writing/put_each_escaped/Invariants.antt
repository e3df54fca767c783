use Rattle.std.proofs.Common.{◌≡◌, ◌++◌, take}
use Rattle.std.specs.List.{flat_map}
use Rattle.structured_fields.specs.Grammar.{in_string}
use Rattle.structured_fields.proofs.writing.put_each_escaped.Given as goal

abbrev pub invariant-loop-c : goal.invariant-loop-c
invariant-loop-c l = l.out ≡ l.fn.out ++ flat_map in_string (take l.c-index l.s)
