use Rattle.std.proofs.Common.{◌∙◌}
use Rattle.std.proofs.lemmas.Result.{IfOk-weaker}
use Rattle.gnap_model.specs.declared.objects.Ask.{Ask}
use Rattle.gnap_history.specs.Drawings.{supply}
use Rattle.gnap_history.proofs.Supplied.{token_is}
use Rattle.gnap_history.proofs.granting.token_with.Goals as goal

pub returns : goal.returns
returns c =
    let ask : Ask = record { label = c.args.label; rights = c.args.rights; bearer = c.args.bearer } in
    IfOk-weaker c.token.result _ _ (λ token is. is ∙ token_is c.supply.result (supply c.args.drawing.now) c.args.opening.now c.args.key.now ask c.args.index
    (record { moment = c.supply.ensures.moment; first = c.supply.ensures.first; words = c.supply.ensures.words })) c.token.ensures
