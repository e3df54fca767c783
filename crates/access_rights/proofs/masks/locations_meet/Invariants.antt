use Rattle.std.proofs.Common.{◌≡◌, drop}
use Rattle.access_rights.specs.Masks.{locations_meet}
use Rattle.access_rights.proofs.masks.locations_meet.Given as goal

abbrev pub invariant-loop-mask : goal.invariant-loop-mask
invariant-loop-mask l = locations_meet l.bits (drop l.mask-index l.locations) l.datatypes l.privileges
    ≡ locations_meet l.bits l.locations l.datatypes l.privileges
