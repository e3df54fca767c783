use Rattle.std.proofs.Common.{rules}
use Rattle.std.specs.Prelude.{option_map}
use Rattle.gnap_model.specs.Actions.Action.{Refuse}
use Rattle.gnap_model.specs.Manage.{rotate_key}
use Rattle.gnap_history.specs.Drawings.{trail, supply}
use Rattle.gnap_history.proofs.Acting.{acts_as, answers_as, rotates_as}
use Rattle.gnap_history.proofs.managing.rotate_token.Goals as goal

pub returns-in-Ok : goal.returns-in-Ok
returns-in-Ok c =
    let drawing = c.args.drawing.now in
    let t = c.args.token.now in
    let act = rotate_key c.args.rules.now c.args.new_key.now t in
    acts_as (supply drawing) c.replace_by.result (act c.in-Ok.opening.now) _
    (rotates_as c.args.rules.now (trail drawing) drawing.moment c.args.key.now t c.args.new_key.now (option_map (λ o. o.now) c.opening_of-grant.result) _
    (search rules) (search rules) (search (rules, c.in-Ok.ensures.ok act)))
    c.replace_by.ensures

pub returns-in-Err : goal.returns-in-Err
returns-in-Err c =
    let drawing = c.args.drawing.now in
    let t = c.args.token.now in
    answers_as (supply drawing) c.refuse-in-Err.result (Refuse c.in-Err.code) _
    (rotates_as c.args.rules.now (trail drawing) drawing.moment c.args.key.now t c.args.new_key.now (option_map (λ o. o.now) c.opening_of-grant.result) _
    (search rules) (search rules) (search (rules, c.in-Err.ensures.err (rotate_key c.args.rules.now c.args.new_key.now t))))
    (c.refuse-in-Err.ensures.reply, c.refuse-in-Err.ensures.notes)
