use Rattle.std.proofs.Common.{◌≡◌, sym, ap}
use Rattle.gnap_model.specs.Continue.{continue_at}
use Rattle.gnap_model.specs.Standing.{GrantState, grant_state}
use Rattle.gnap_model.specs.Standing.GrantState.{IsPending}
use Rattle.gnap_history.specs.Drawings.{trail, supply}
use Rattle.gnap_history.proofs.Acting.{acts_as}
use Rattle.gnap_history.proofs.continuing.continue_by_state.Goals as goal

pub returns-in-Pending : goal.returns-in-Pending
returns-in-Pending c =
    let drawing = c.args.drawing.now in
    let pending : IsPending c.in-Pending.round.now
    ≡ grant_state (trail drawing) c.args.opening.now.grant drawing.moment = rw (c.as_slice.ensures, c.in-Pending.is) at c.state_now.ensures in
    acts_as (supply drawing) c.continue_pending.result
    (continue_at (IsPending c.in-Pending.round.now) (trail drawing) drawing.moment c.args.opening.now c.args.reference.now) _
    (ap (λ (s : GrantState). continue_at s (trail drawing) drawing.moment c.args.opening.now c.args.reference.now) (sym pending))
    c.continue_pending.ensures
