use Rattle.std.proofs.Common.{◌≡◌, ◌≤◌, take, reverse}
use Rattle.std.specs.List.{count_by}
use Rattle.gnap_model.specs.Standing.{is_live_opening}
use Rattle.gnap_history.proofs.limits.live_grants.Given as goal

abbrev pub invariant-loop-note : goal.invariant-loop-note
invariant-loop-note l = (l.count ≡ count_by (is_live_opening (reverse l.notes) l.now) (reverse (take l.note-index l.notes))) × (l.count ≤ l.note-index)
