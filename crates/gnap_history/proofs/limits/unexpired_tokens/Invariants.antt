use Rattle.std.proofs.Common.{◌≡◌, ◌≤◌, take}
use Rattle.std.specs.List.{count_by}
use Rattle.gnap_history.specs.Counts.{is_unexpired}
use Rattle.gnap_history.proofs.limits.unexpired_tokens.Given as goal

abbrev pub invariant-loop-note : goal.invariant-loop-note
invariant-loop-note l = (l.count ≡ count_by (is_unexpired l.now) (take l.note-index l.notes)) × (l.count ≤ l.note-index)
