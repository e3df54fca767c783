use Rattle.std.proofs.Common.{◌≡◌, take, reverse}
use Rattle.gnap_model.specs.Common.{first_of}
use Rattle.gnap_model.specs.Standing.{earliest_in}
use Rattle.gnap_history.proofs.rounds.earliest_of.Given as goal

abbrev pub invariant-loop-note : goal.invariant-loop-note
invariant-loop-note l = l.found ≡ first_of (earliest_in l.grant) (reverse (take l.note-index l.notes))
