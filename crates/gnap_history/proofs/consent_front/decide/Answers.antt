use Rattle.std.proofs.Common.{rules}
use Rattle.gnap_model.specs.Standing.{round_by_handle}
use Rattle.gnap_model.specs.declared.objects.ErrorCode.TheVariants.{UnknownInteraction}
use Rattle.gnap_history.specs.Drawings.{trail, supply}
use Rattle.gnap_history.proofs.Acting.{found_as}
use Rattle.gnap_history.proofs.consent_front.decide.Goals as goal

pub returns-in-Some : goal.returns-in-Some
returns-in-Some c =
    let drawing = c.args.drawing.now in
    found_as (supply drawing) c.decide_round.result UnknownInteraction _ (round_by_handle (trail drawing) drawing.moment c.args.request.now.handle)
    c.in-Some.round.now
    (search rules) c.decide_round.ensures
