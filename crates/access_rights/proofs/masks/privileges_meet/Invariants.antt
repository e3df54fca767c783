use Rattle.std.proofs.Common.{◌≡◌, drop}
use Rattle.access_rights.specs.Masks.{privileges_meet}
use Rattle.access_rights.proofs.masks.privileges_meet.Given as goal

abbrev pub invariant-loop-mask : goal.invariant-loop-mask
invariant-loop-mask l = privileges_meet l.bits (drop l.mask-index l.privileges) ≡ privileges_meet l.bits l.privileges
