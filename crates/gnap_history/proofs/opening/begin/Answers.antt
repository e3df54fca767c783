use Rattle.std.proofs.Common.{◌≡◌, [], subst, sym, rules}
use Rattle.std.specs.Prelude.{IfOk}
use Rattle.gnap_model.specs.Actions.{outcome_of}
use Rattle.gnap_model.specs.Begin.{begin_by}
use Rattle.gnap_model.specs.Judging.{settle}
use Rattle.gnap_model.specs.Judging.Settled.{AtOnce, ByAsking, Never}
use Rattle.gnap_model.specs.declared.notes.OpeningNote.{OpeningNote}
use Rattle.gnap_history.specs.Drawings.{trail, supply, IsAnswer}
use Rattle.gnap_history.proofs.Acting.{answers_as, acts_as}
use Rattle.gnap_history.proofs.Deciding.{begin_as}
use Rattle.gnap_history.proofs.opening.begin.Goals as goal

pub returns-in-Never : goal.returns-in-Never
returns-in-Never c =
    let drawing = c.args.drawing.now in
    let is : Never ≡ settle c.args.setup.now c.args.key.now [] c.args.request.now =
    rw (c.in-Never.is, c.as_slice.ensures.value, c.new.ensures) at c.in_ok-settle.ensures in
    answers_as (supply drawing) c.refuse-in-Never.result _ _
    (begin_as c.args.setup.now (trail drawing) drawing.moment c.args.key.now c.args.request.now c.args.not_after Never (search rules) (search rules) (sym is))
    (c.refuse-in-Never.ensures.reply, c.refuse-in-Never.ensures.notes)

pub returns-in-AtOnce : goal.returns-in-AtOnce
returns-in-AtOnce c =
    let drawing = c.args.drawing.now in
    let is : AtOnce ≡ settle c.args.setup.now c.args.key.now [] c.args.request.now =
    rw (c.in-AtOnce.is, c.as_slice.ensures.value, c.new.ensures) at c.in_ok-settle.ensures in
    acts_as (supply drawing) c.begin_at_once.result _ _
    (begin_as c.args.setup.now (trail drawing) drawing.moment c.args.key.now c.args.request.now c.args.not_after AtOnce (search rules) (search rules) (sym is))
    (subst (λ (o : OpeningNote). IfOk c.begin_at_once.result
    (IsAnswer (outcome_of (supply drawing) (begin_by AtOnce (trail drawing) drawing.moment o c.args.request.now))))
    c.in_ok-opening-in-AtOnce.ensures c.begin_at_once.ensures)

pub returns : goal.returns
returns c =
    let drawing = c.args.drawing.now in
    let is : ByAsking ≡ settle c.args.setup.now c.args.key.now [] c.args.request.now =
    rw (c.in-ByAsking.is, c.as_slice.ensures.value, c.new.ensures) at c.in_ok-settle.ensures in
    acts_as (supply drawing) c.begin_by_asking.result _ _
    (begin_as c.args.setup.now (trail drawing) drawing.moment c.args.key.now c.args.request.now c.args.not_after ByAsking (search rules) (search rules)
    (sym is))
    (subst (λ (o : OpeningNote). IfOk c.begin_by_asking.result
    (IsAnswer (outcome_of (supply drawing) (begin_by ByAsking (trail drawing) drawing.moment o c.args.request.now))))
    c.in_ok-opening-in-ByAsking.ensures c.begin_by_asking.ensures)
