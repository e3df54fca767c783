use Rattle.std.specs.Prelude.{option_map}
use Rattle.gnap_model.specs.Actions.{Action}
use Rattle.gnap_model.specs.Actions.Action.{Refuse}
use Rattle.gnap_model.specs.Judging.{settle}
use Rattle.gnap_model.specs.Change.{modify_by}
use Rattle.gnap_model.specs.Standing.{named_grant, consent_of}
use Rattle.gnap_model.specs.declared.notes.OpeningNote.{OpeningNote}
use Rattle.gnap_history.specs.Drawings.{trail, supply}
use Rattle.gnap_history.proofs.Acting.{acts_as, answers_as, with_grant_as}
use Rattle.gnap_history.proofs.changing.modify.Goals as goal

pub returns-in-Ok : goal.returns-in-Ok
returns-in-Ok c =
    let drawing = c.args.drawing.now in
    let act : OpeningNote → Action = λ o. modify_by (settle c.args.setup.now o.key (consent_of (trail drawing) o.grant) c.args.request.now) (trail drawing)
    drawing.moment o c.args.request.now in
    acts_as (supply drawing) c.modify_grant.result (act c.in-Ok.opening.now) _
    (with_grant_as act c.args.key.now (named_grant (trail drawing) drawing.moment c.args.value.now) (option_map (λ o. o.now) c.named_grant-grant.result) _
    (rw (c.as_slice.ensures, c.as_slice-2.ensures.value) at c.named_grant-grant.ensures) (rw c.as_slice-3.ensures.value at (c.in-Ok.ensures.ok act)))
    c.modify_grant.ensures

pub returns-in-Err : goal.returns-in-Err
returns-in-Err c =
    let drawing = c.args.drawing.now in
    let act : OpeningNote → Action = λ o. modify_by (settle c.args.setup.now o.key (consent_of (trail drawing) o.grant) c.args.request.now) (trail drawing)
    drawing.moment o c.args.request.now in
    answers_as (supply drawing) c.refuse.result (Refuse c.in-Err.code) _
    (with_grant_as act c.args.key.now (named_grant (trail drawing) drawing.moment c.args.value.now) (option_map (λ o. o.now) c.named_grant-grant.result) _
    (rw (c.as_slice.ensures, c.as_slice-2.ensures.value) at c.named_grant-grant.ensures) (rw c.as_slice-3.ensures.value at (c.in-Err.ensures.err act)))
    (c.refuse.ensures.reply, c.refuse.ensures.notes)
