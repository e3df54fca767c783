use Rattle.std.proofs.Common.{◌≡◌, ◌+◌, ◌^◌, ◌<◌, drop, sum}
use Rattle.json_objects.specs.Sizes.{capped}
use Rattle.json_objects.proofs.sizes.total_size.Given as goal

abbrev pub invariant-loop-size : goal.invariant-loop-size
invariant-loop-size l = record { total : capped (l.total + sum (drop l.size-index l.sizes)) ≡ capped (sum l.sizes); fits : l.total < 2 ^ 64 }
