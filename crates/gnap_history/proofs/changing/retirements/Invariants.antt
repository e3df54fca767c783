use Rattle.std.proofs.Common.{◌≡◌, ◌++◌, drop, reverse}
use Rattle.std.specs.Prelude.{◌&&◌, ◌==◌}
use Rattle.std.specs.List.{filter_map}
use Rattle.gnap_model.specs.Actions.{retire}
use Rattle.gnap_model.specs.Standing.{token_in, is_managed}
use Rattle.gnap_history.proofs.changing.retirements.Given as goal

abbrev pub invariant-loop-note : goal.invariant-loop-note
invariant-loop-note l =
    let own = token_in (λ token. (token.grant == l.opening.grant) && is_managed (reverse l.notes) l.now token) in
    (l.retired ++ retire (filter_map own (drop l.note-index l.notes))) ≡ retire (filter_map own l.notes)
