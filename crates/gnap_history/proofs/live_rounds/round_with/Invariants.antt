use Rattle.std.proofs.Common.{◌≡◌, take, reverse}
use Rattle.std.specs.List.{filter_map}
use Rattle.std.specs.Prelude.{option_map}
use Rattle.gnap_model.specs.Common.{first_of}
use Rattle.gnap_model.specs.Standing.{interaction_in}
use Rattle.gnap_history.specs.Interactions.{goes_by, round_where}
use Rattle.gnap_history.proofs.live_rounds.round_with.Given as goal

abbrev pub invariant-loop-note : goal.invariant-loop-note
invariant-loop-note l = option_map (λ r. r.now) l.found
    ≡ first_of (round_where (goes_by l.name)) (filter_map (interaction_in (reverse l.notes) l.now) (reverse (take l.note-index l.notes)))
