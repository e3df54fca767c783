use Rattle.std.proofs.Common.{◌≡◌, ◌∙◌, ◌++◌, [], reverse, sym, ap, append-nil}
use Rattle.std.specs.Prelude.{◌&&◌, ◌==◌}
use Rattle.std.specs.List.{filter_map}
use Rattle.std.proofs.lemmas.List.{drop_all}
use Rattle.gnap_model.specs.Actions.{retire}
use Rattle.gnap_model.specs.Standing.{token_in, is_managed}
use Rattle.gnap_history.proofs.Retiring.{issued_in_order}
use Rattle.gnap_history.proofs.changing.retirements.Goals as goal

pub returns : goal.returns
returns c =
    let notes = c.args.notes.now in
    let retired : c.loop-note.retired ++ []
    ≡ retire (filter_map (token_in (λ token. (token.grant == c.args.opening.now.grant) && is_managed (reverse notes) c.args.now token)) notes) =
    rw (drop_all c.loop-note.note-index notes c.loop-note-test.false) at c.loop-note.invariant in
    sym (append-nil c.loop-note.retired) ∙ retired
    ∙ ap retire (sym (issued_in_order (λ token. (token.grant == c.args.opening.now.grant) && is_managed (reverse notes) c.args.now token) notes))
