use Rattle.std.proofs.Common.{◌≡◌, take, reverse}
use Rattle.gnap_model.specs.Standing.{consent_of}
use Rattle.gnap_history.proofs.rounds.consent_of.Given as goal

abbrev pub invariant-loop-note : goal.invariant-loop-note
invariant-loop-note l = l.consent ≡ consent_of (reverse (take l.note-index l.notes)) l.grant
