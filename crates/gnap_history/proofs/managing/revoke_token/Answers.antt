use Rattle.std.proofs.Common.{rules}
use Rattle.std.proofs.lemmas.Result.{IfOk-weaker}
use Rattle.std.specs.List.{list_any}
use Rattle.std.specs.Prelude.{option_map}
use Rattle.gnap_model.specs.Actions.{Action}
use Rattle.gnap_model.specs.Actions.Action.{Refuse, RevokeToken}
use Rattle.gnap_model.specs.Standing.{is_retirement}
use Rattle.gnap_model.specs.declared.notes.OpeningNote.{OpeningNote}
use Rattle.gnap_model.specs.declared.objects.ErrorCode.TheVariants.{InvalidRequest}
use Rattle.gnap_history.specs.Drawings.{trail, supply}
use Rattle.gnap_history.proofs.Acting.{acts_as, answers_as, on_grant_as}
use Rattle.gnap_history.proofs.managing.revoke_token.Goals as goal

pub returns-in-Ok : goal.returns-in-Ok
returns-in-Ok c =
    let drawing = c.args.drawing.now in
    let t = c.args.token.now in
    let act : OpeningNote → Action = λ o. RevokeToken t (list_any (is_retirement t.serial) (trail drawing)) in
    acts_as (supply drawing) c.retire.result (RevokeToken t (list_any (is_retirement t.serial) (trail drawing))) _
    (on_grant_as InvalidRequest (trail drawing) c.args.key.now t act (option_map (λ o. o.now) c.opening_of-grant.result)
    (RevokeToken t (list_any (is_retirement t.serial) (trail drawing))) (search rules) (search (rules, c.in-Ok.ensures.ok act)))
    (IfOk-weaker c.retire.result _ _ (λ answered each. each (supply drawing)) c.retire.ensures)

pub returns-in-Err : goal.returns-in-Err
returns-in-Err c =
    let drawing = c.args.drawing.now in
    let t = c.args.token.now in
    let act : OpeningNote → Action = λ o. RevokeToken t (list_any (is_retirement t.serial) (trail drawing)) in
    answers_as (supply drawing) c.refuse.result (Refuse c.in-Err.code) _
    (on_grant_as InvalidRequest (trail drawing) c.args.key.now t act (option_map (λ o. o.now) c.opening_of-grant.result) (Refuse c.in-Err.code) (search rules)
    (search (rules, c.in-Err.ensures.err act)))
    (c.refuse.ensures.reply, c.refuse.ensures.notes)
