use Rattle.std.proofs.Common.{◌≡◌, false, true, rules}
use Rattle.std.specs.Prelude.{is_none, is_some}
use Rattle.gnap_model.specs.Standing.{decision_of}
use Rattle.gnap_history.specs.Drawings.{trail, supply}
use Rattle.gnap_history.proofs.Acting.{acts_as, ran_out, none_mapped}
use Rattle.gnap_history.proofs.continuing.continue_round.Goals as goal

pub returns-then-round-drawing : goal.returns-then-round-drawing
returns-then-round-drawing c =
    let drawing = c.args.drawing.now in
    let none : is_none c.decision_of-decision.result ≡ true = search rules in
    let undecided : is_some (decision_of (trail drawing) c.args.opening.now.grant) ≡ false = none_mapped (λ d. d.now) c.decision_of-decision.result _
    (rw c.as_slice.ensures at c.decision_of-decision.ensures) none in
    acts_as (supply drawing) c.refuse_and_finalize.result _ _
    (ran_out (trail drawing) drawing.moment c.args.opening.now c.args.reference.now (decision_of (trail drawing) c.args.opening.now.grant) c.args.round.now
    undecided c.if-round-drawing.true)
    c.refuse_and_finalize.ensures
