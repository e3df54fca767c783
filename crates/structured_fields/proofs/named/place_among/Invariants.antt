use Rattle.std.proofs.Common.{◌≡◌, None, take}
use Rattle.structured_fields.specs.Named.{place_of}
use Rattle.structured_fields.proofs.named.place_among.Given as goal

abbrev pub invariant-loop-i : goal.invariant-loop-i
invariant-loop-i g l = place_of (take l.i l.entries) l.name ≡ None
