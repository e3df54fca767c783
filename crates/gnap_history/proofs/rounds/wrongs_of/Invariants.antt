use Rattle.std.proofs.Common.{◌≡◌, ◌≤◌, take, reverse}
use Rattle.gnap_model.specs.Standing.{wrongs_of}
use Rattle.gnap_history.proofs.rounds.wrongs_of.Given as goal

abbrev pub invariant-loop-note : goal.invariant-loop-note
invariant-loop-note l = (l.count ≡ wrongs_of (reverse (take l.note-index l.notes)) l.grant) × (l.count ≤ l.note-index)
