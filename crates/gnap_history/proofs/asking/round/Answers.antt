use Rattle.std.proofs.Common.{◌∙◌}
use Rattle.std.proofs.lemmas.Result.{IfOk-weaker}
use Rattle.gnap_history.specs.Drawings.{supply}
use Rattle.gnap_history.proofs.Supplied.{round_is}
use Rattle.gnap_history.proofs.asking.round.Goals as goal

pub returns : goal.returns
returns c =
    IfOk-weaker c.round.result _ _ (λ round is. is ∙ round_is c.supply.result (supply c.args.drawing.now) c.args.opening.now c.args.modes.now c.in_ok-code.code
    (record { moment = c.supply.ensures.moment; first = c.supply.ensures.first; words = c.supply.ensures.words }) c.in_ok-code.ensures) c.round.ensures
