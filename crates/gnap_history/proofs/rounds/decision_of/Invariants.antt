use Rattle.std.proofs.Common.{◌≡◌, take, reverse}
use Rattle.std.specs.Prelude.{option_map}
use Rattle.gnap_model.specs.Standing.{decision_of}
use Rattle.gnap_history.proofs.rounds.decision_of.Given as goal

abbrev pub invariant-loop-note : goal.invariant-loop-note
invariant-loop-note l = option_map (λ d. d.now) l.found ≡ decision_of (reverse (take l.note-index l.notes)) l.grant
