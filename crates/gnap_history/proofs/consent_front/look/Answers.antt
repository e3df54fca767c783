use Rattle.std.proofs.Common.{rules}
use Rattle.gnap_model.specs.Standing.{round_by_handle}
use Rattle.gnap_model.specs.declared.objects.ErrorCode.TheVariants.{UnknownInteraction}
use Rattle.gnap_history.specs.Drawings.{trail, supply}
use Rattle.gnap_history.proofs.Acting.{found_as}
use Rattle.gnap_history.proofs.consent_front.look.Goals as goal

pub returns-in-Some : goal.returns-in-Some
returns-in-Some c =
    let drawing = c.args.drawing.now in
    found_as (supply drawing) c.look_at.result UnknownInteraction _ (round_by_handle (trail drawing) drawing.moment c.args.handle.now) c.in-Some.round.now
    (search rules) c.look_at.ensures
