use Rattle.std.proofs.Common.{◌≡◌, drop}
use Rattle.access_rights.specs.Masks.{choices_meet}
use Rattle.access_rights.proofs.masks.choices_meet.Given as goal

abbrev pub invariant-loop-mask : goal.invariant-loop-mask
invariant-loop-mask l = choices_meet (drop l.mask-index l.actions) l.locations l.datatypes l.privileges
    ≡ choices_meet l.actions l.locations l.datatypes l.privileges
