use Rattle.std.proofs.Common.{◌≡◌, drop}
use Rattle.std.specs.List.{list_any}
use Rattle.gnap_history.specs.Interactions.{goes_by, is_round_elsewhere}
use Rattle.gnap_history.proofs.live_rounds.is_used_elsewhere.Given as goal

abbrev pub invariant-loop-note : goal.invariant-loop-note
invariant-loop-note l = list_any (is_round_elsewhere l.grant (goes_by l.name)) l.notes
    ≡ list_any (is_round_elsewhere l.grant (goes_by l.name)) (drop l.note-index l.notes)
