use Rattle.std.proofs.Common.{◌≡◌, ◌∙◌, reverse, sym}
use Rattle.std.specs.List.{count_by}
use Rattle.std.proofs.lemmas.List.{take_all}
use Rattle.gnap_history.specs.Counts.{is_live_elsewhere}
use Rattle.gnap_history.proofs.Bounds.{other_live_tokens-count}
use Rattle.gnap_history.proofs.limits.other_live_tokens.Goals as goal

pub returns-clause-count : goal.returns-clause-count
returns-clause-count c =
    let notes = c.args.notes.now in
    let counted : c.loop-note.count ≡ count_by (is_live_elsewhere (reverse notes) c.args.now c.args.opening.now.grant) notes =
    rw (take_all c.loop-note.note-index notes c.loop-note-test.false) at c.loop-note.invariant.0 in
    counted ∙ sym (other_live_tokens-count notes c.args.now c.args.opening.now)
