use Rattle.std.proofs.Common.{◌≡◌, [], ◌++◌, drop}
use Rattle.std.specs.Option.{option_map}
use Rattle.message_signature.specs.BaseTemplates.{line_templates}
use Rattle.message_signature.proofs.base_template.line_templates.Given as goal

abbrev pub invariant-loop-i : goal.invariant-loop-i
invariant-loop-i l = option_map (λ ls. l.lines ++ ls) (line_templates l.before (drop l.i l.items)) ≡ line_templates [] l.items
