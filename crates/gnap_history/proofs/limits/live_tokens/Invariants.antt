use Rattle.std.proofs.Common.{◌≡◌, ◌≤◌, take, reverse, length}
use Rattle.std.specs.List.{filter_map}
use Rattle.gnap_model.specs.Standing.{token_in, is_live}
use Rattle.gnap_history.proofs.limits.live_tokens.Given as goal

abbrev pub invariant-loop-note : goal.invariant-loop-note
invariant-loop-note l = (l.count ≡ length (filter_map (token_in (is_live (reverse l.notes) l.now)) (reverse (take l.note-index l.notes))))
    × (l.count ≤ l.note-index)
