use Rattle.std.proofs.Common.{◌≡◌}
use Rattle.gnap_model.specs.Judging.{settle}
use Rattle.gnap_model.specs.Judging.Settled.{AtOnce, ByAsking, Never}
use Rattle.gnap_model.specs.Standing.{consent_of}
use Rattle.gnap_history.specs.Drawings.{trail, supply}
use Rattle.gnap_history.proofs.Acting.{acts_as, answers_as}
use Rattle.gnap_history.proofs.Modifying.{modified_as}
use Rattle.gnap_history.proofs.changing.modify_grant.Goals as goal

pub returns-in-AtOnce : goal.returns-in-AtOnce
returns-in-AtOnce c =
    let drawing = c.args.drawing.now in
    let o = c.args.opening.now in
    let is : AtOnce ≡ settle c.args.setup.now o.key (consent_of (trail drawing) o.grant) c.args.request.now =
    rw (c.in-AtOnce.is, c.as_slice-2.ensures.value, c.consent_of-consent.ensures, c.as_slice.ensures) at c.in_ok-settle.ensures in
    acts_as (supply drawing) c.modify_at_once.result _ _ (modified_as c.args.setup.now (trail drawing) drawing.moment o c.args.request.now AtOnce is)
    c.modify_at_once.ensures

pub returns-in-ByAsking : goal.returns-in-ByAsking
returns-in-ByAsking c =
    let drawing = c.args.drawing.now in
    let o = c.args.opening.now in
    let is : ByAsking ≡ settle c.args.setup.now o.key (consent_of (trail drawing) o.grant) c.args.request.now =
    rw (c.in-ByAsking.is, c.as_slice-2.ensures.value, c.consent_of-consent.ensures, c.as_slice.ensures) at c.in_ok-settle.ensures in
    acts_as (supply drawing) c.modify_by_asking.result _ _ (modified_as c.args.setup.now (trail drawing) drawing.moment o c.args.request.now ByAsking is)
    c.modify_by_asking.ensures

pub returns : goal.returns
returns c =
    let drawing = c.args.drawing.now in
    let o = c.args.opening.now in
    let is : Never ≡ settle c.args.setup.now o.key (consent_of (trail drawing) o.grant) c.args.request.now =
    rw (c.in-Never.is, c.as_slice-2.ensures.value, c.consent_of-consent.ensures, c.as_slice.ensures) at c.in_ok-settle.ensures in
    answers_as (supply drawing) c.refuse.result _ _ (modified_as c.args.setup.now (trail drawing) drawing.moment o c.args.request.now Never is)
    (c.refuse.ensures.reply, c.refuse.ensures.notes)
