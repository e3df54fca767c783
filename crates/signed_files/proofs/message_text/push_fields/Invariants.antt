use Rattle.std.proofs.Common.{◌≡◌, ◌++◌, take, flat_map}
use Rattle.signed_files.specs.SignedText.{field_line}
use Rattle.signed_files.proofs.message_text.push_fields.Given as goal

abbrev pub invariant-loop-field : goal.invariant-loop-field
invariant-loop-field l = l.text ≡ l.fn.text ++ flat_map field_line (take l.field-index l.field-items)
