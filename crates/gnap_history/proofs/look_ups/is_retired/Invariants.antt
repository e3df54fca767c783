use Rattle.std.proofs.Common.{◌≡◌, take, reverse}
use Rattle.std.specs.List.{list_any}
use Rattle.gnap_model.specs.Standing.{is_retirement}
use Rattle.gnap_history.proofs.look_ups.is_retired.Given as goal

abbrev pub invariant-loop-note : goal.invariant-loop-note
invariant-loop-note l = l.found ≡ list_any (is_retirement l.serial) (reverse (take l.note-index l.notes))
