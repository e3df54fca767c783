use Rattle.std.proofs.Common.{◌≡◌, take, reverse}
use Rattle.std.specs.List.{list_any}
use Rattle.gnap_model.specs.Standing.{is_replacement}
use Rattle.gnap_history.proofs.presented_values.is_replaced.Given as goal

abbrev pub invariant-loop-note : goal.invariant-loop-note
invariant-loop-note l = l.found ≡ list_any (is_replacement l.serial) (reverse (take l.note-index l.notes))
