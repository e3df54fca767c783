use Rattle.std.proofs.Common.{◌≡◌, ◌++◌, drop, map, Some}
use Rattle.access_rights.specs.Masks.{mask_of}
use Rattle.access_rights.proofs.masks.masks_of.Given as goal

abbrev pub invariant-loop-text : goal.invariant-loop-text
invariant-loop-text l = l.masks.items ++ map (λ v. mask_of l.granted l.wanted l.dimension v) (map Some (drop l.text-index l.text-items))
    ≡ map (λ v. mask_of l.granted l.wanted l.dimension v) (map Some l.text-items)
