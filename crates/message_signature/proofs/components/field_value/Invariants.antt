use Rattle.std.proofs.Common.{◌≡◌, take}
use Rattle.std.specs.Option.{option_map}
use Rattle.message_signature.specs.Components.{field_value, text_of}
use Rattle.message_signature.proofs.components.field_value.Given as goal

abbrev pub invariant-loop-field : goal.invariant-loop-field
invariant-loop-field l = option_map text_of l.found ≡ field_value l.name (take l.field-index l.fields)
