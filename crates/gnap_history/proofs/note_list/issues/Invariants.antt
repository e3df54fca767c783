use Rattle.std.proofs.Common.{◌≡◌, ◌≤◌, take}
use Rattle.std.specs.List.{count_by}
use Rattle.gnap_history.specs.Counts.{is_issue}
use Rattle.gnap_history.proofs.note_list.issues.Given as goal

abbrev pub invariant-loop-note : goal.invariant-loop-note
invariant-loop-note l = (l.count ≡ count_by is_issue (take l.note-index l.notes)) × (l.count ≤ l.note-index)
