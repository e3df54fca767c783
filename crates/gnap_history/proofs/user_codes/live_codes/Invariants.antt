use Rattle.std.proofs.Common.{◌≡◌, take, reverse}
use Rattle.std.specs.List.{filter_map}
use Rattle.gnap_model.specs.Standing.{interaction_in, code_in}
use Rattle.gnap_history.proofs.user_codes.live_codes.Given as goal

abbrev pub invariant-loop-note : goal.invariant-loop-note
invariant-loop-note l = l.codes ≡ reverse (filter_map code_in (filter_map (interaction_in (reverse l.notes) l.now) (reverse (take l.note-index l.notes))))
