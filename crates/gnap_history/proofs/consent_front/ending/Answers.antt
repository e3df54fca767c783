use Rattle.std.proofs.Common.{◌∙◌}
use Rattle.std.proofs.lemmas.Result.{IfOk-weaker}
use Rattle.gnap_history.specs.Drawings.{supply}
use Rattle.gnap_history.proofs.Supplied.{finish_is}
use Rattle.gnap_history.proofs.consent_front.ending.Goals as goal

pub returns : goal.returns
returns c =
    IfOk-weaker c.ending.result _ _ (λ told is. is ∙ finish_is c.supply.result (supply c.args.drawing.now) c.args.round.now c.args.round.now.modes.finish
    (record { moment = c.supply.ensures.moment; first = c.supply.ensures.first; words = c.supply.ensures.words })) c.ending.ensures
