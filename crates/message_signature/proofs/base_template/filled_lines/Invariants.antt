use Rattle.std.proofs.Common.{◌≡◌, ◌++◌, drop}
use Rattle.std.specs.Option.{option_map}
use Rattle.message_signature.specs.BaseTemplates.{filled_lines}
use Rattle.message_signature.proofs.base_template.filled_lines.Given as goal

abbrev pub invariant-loop-i : goal.invariant-loop-i
invariant-loop-i l = option_map (λ t. l.text ++ t) (filled_lines l.message l.base (drop l.i l.lines)) ≡ filled_lines l.message l.base l.lines
