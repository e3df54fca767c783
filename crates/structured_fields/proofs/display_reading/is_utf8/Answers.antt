use Rattle.std.proofs.Common.{sym}
use Rattle.structured_fields.proofs.Displays.{invalid_utf8}
use Rattle.structured_fields.proofs.display_reading.is_utf8.Goals as goal

pub returns-in-Err : goal.returns-in-Err
returns-in-Err c = sym (invalid_utf8 c.args.bytes.now c.in-Err.ensures.cases.0)
