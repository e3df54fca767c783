use Rattle.std.proofs.Common.{◌≡◌, drop}
use Rattle.std.specs.List.{list_any}
use Rattle.gnap_history.specs.Holders.{is_held_by_other}
use Rattle.gnap_history.proofs.presented_values.had_by_other.Given as goal

abbrev pub invariant-loop-note : goal.invariant-loop-note
invariant-loop-note l = list_any (is_held_by_other l.grant l.value) l.notes ≡ list_any (is_held_by_other l.grant l.value) (drop l.note-index l.notes)
