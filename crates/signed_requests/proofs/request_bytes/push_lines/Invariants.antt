use Rattle.std.proofs.Common.{◌≡◌, ◌++◌, drop}
use Rattle.std.specs.List.{flat_map}
use Rattle.signed_requests.specs.Requests.{spelt_line}
use Rattle.signed_requests.proofs.request_bytes.push_lines.Given as goal

abbrev pub invariant-loop-field : goal.invariant-loop-field
invariant-loop-field l = l.out ++ flat_map spelt_line (drop l.field-index l.field-items) ≡ l.fn.out ++ flat_map spelt_line l.field-items
