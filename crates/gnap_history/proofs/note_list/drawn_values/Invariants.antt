use Rattle.std.proofs.Common.{◌≡◌, ◌≤◌, ◌*◌, take}
use Rattle.gnap_history.specs.Counts.{value_count}
use Rattle.gnap_history.proofs.note_list.drawn_values.Given as goal

abbrev pub invariant-loop-note : goal.invariant-loop-note
invariant-loop-note l = (l.count ≡ value_count (take l.note-index l.notes)) × (l.count ≤ 2 * l.note-index)
