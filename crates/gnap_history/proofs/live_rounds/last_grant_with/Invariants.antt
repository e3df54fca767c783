use Rattle.std.proofs.Common.{◌≡◌, take, reverse}
use Rattle.std.specs.Option.{unwrap_or}
use Rattle.gnap_model.specs.Common.{first_of}
use Rattle.gnap_history.specs.Interactions.{goes_by, grant_in}
use Rattle.gnap_history.proofs.live_rounds.last_grant_with.Given as goal

abbrev pub invariant-loop-note : goal.invariant-loop-note
invariant-loop-note l = l.found ≡ unwrap_or (first_of (grant_in (goes_by l.name)) (reverse (take l.note-index l.notes))) 0
