use Rattle.std.proofs.Common.{◌≡◌, ◌≤◌, take, reverse}
use Rattle.std.specs.List.{count_by}
use Rattle.gnap_history.specs.Counts.{is_live_elsewhere}
use Rattle.gnap_history.proofs.limits.other_live_tokens.Given as goal

abbrev pub invariant-loop-note : goal.invariant-loop-note
invariant-loop-note l = (l.count ≡ count_by (is_live_elsewhere (reverse l.notes) l.now l.opening.grant) (take l.note-index l.notes)) × (l.count ≤ l.note-index)
