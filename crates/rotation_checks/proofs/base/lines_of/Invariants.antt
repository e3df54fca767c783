use Rattle.std.proofs.Common.{◌≡◌, ◌++◌, drop}
use Rattle.std.specs.Option.{option_map}
use Rattle.rotation_checks.specs.RotationBase.{rotation_lines}
use Rattle.rotation_checks.proofs.base.lines_of.Given as goal

abbrev pub invariant-loop-i : goal.invariant-loop-i
invariant-loop-i l = option_map (λ t. l.text ++ t) (rotation_lines l.message l.base l.fields (drop l.i l.items))
    ≡ rotation_lines l.message l.base l.fields l.items
