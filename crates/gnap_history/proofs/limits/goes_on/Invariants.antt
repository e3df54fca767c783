use Rattle.std.proofs.Common.{◌≡◌, drop}
use Rattle.std.specs.List.{list_all}
use Rattle.gnap_history.specs.Counts.{lets_go_on}
use Rattle.gnap_history.proofs.limits.goes_on.Given as goal

abbrev pub invariant-loop-note : goal.invariant-loop-note
invariant-loop-note l = list_all (lets_go_on l.now) l.notes ≡ list_all (lets_go_on l.now) (drop l.note-index l.notes)
