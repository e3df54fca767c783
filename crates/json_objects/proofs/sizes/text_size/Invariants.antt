use Rattle.std.proofs.Common.{◌≡◌, ◌+◌, ◌^◌, ◌<◌, drop, length}
use Rattle.json.specs.Print.{escape, quoted}
use Rattle.json_objects.specs.Sizes.{capped}
use Rattle.json_objects.proofs.sizes.text_size.Given as goal

abbrev pub invariant-loop-byte : goal.invariant-loop-byte
invariant-loop-byte l = record { size : capped (l.size + length (escape (drop l.byte-index l.text))) ≡ capped (length (quoted l.text)); fits : l.size < 2 ^ 64 }
