use Rattle.std.proofs.Common.{rules}
use Rattle.std.specs.Prelude.{option_map}
use Rattle.gnap_model.specs.Actions.Action.{Refuse, CancelGrant}
use Rattle.gnap_model.specs.Standing.{named_grant}
use Rattle.gnap_history.specs.Drawings.{trail, supply}
use Rattle.gnap_history.proofs.Acting.{acts_as, answers_as, with_grant_as}
use Rattle.gnap_history.proofs.changing.cancel.Goals as goal

pub returns-in-Ok : goal.returns-in-Ok
returns-in-Ok c =
    let drawing = c.args.drawing.now in
    acts_as (supply drawing) c.noted.result (CancelGrant c.in-Ok.opening.now) _
    (with_grant_as CancelGrant c.args.key.now (named_grant (trail drawing) drawing.moment c.args.value.now) (option_map (λ o. o.now) c.named_grant-grant.result)
    _
    (search rules) (search (rules, c.in-Ok.ensures.ok CancelGrant)))
    c.noted.ensures

pub returns-in-Err : goal.returns-in-Err
returns-in-Err c =
    let drawing = c.args.drawing.now in
    answers_as (supply drawing) c.refuse.result (Refuse c.in-Err.code) _
    (with_grant_as CancelGrant c.args.key.now (named_grant (trail drawing) drawing.moment c.args.value.now) (option_map (λ o. o.now) c.named_grant-grant.result)
    _
    (search rules) (search (rules, c.in-Err.ensures.err CancelGrant)))
    (c.refuse.ensures.reply, c.refuse.ensures.notes)
