use Rattle.std.proofs.Common.{◌≡◌, drop}
use Rattle.access_rights.specs.Masks.{datatypes_meet}
use Rattle.access_rights.proofs.masks.datatypes_meet.Given as goal

abbrev pub invariant-loop-mask : goal.invariant-loop-mask
invariant-loop-mask l = datatypes_meet l.bits (drop l.mask-index l.datatypes) l.privileges ≡ datatypes_meet l.bits l.datatypes l.privileges
