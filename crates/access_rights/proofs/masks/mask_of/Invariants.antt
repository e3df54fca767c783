use Rattle.std.proofs.Common.{◌≡◌, drop, option_map}
use Rattle.access_rights.specs.Masks.{is_alike, has_value, bits_from, mask_of}
use Rattle.access_rights.proofs.masks.mask_of.Given as goal

abbrev pub invariant-loop-right : goal.invariant-loop-right
invariant-loop-right l = bits_from (is_alike l.wanted) (has_value l.dimension (option_map (λ b. b.now) l.value)) l.bits (drop l.right-index l.right-items)
    ≡ mask_of l.granted l.wanted l.dimension (option_map (λ b. b.now) l.value)
