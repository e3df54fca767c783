use Rattle.std.proofs.lemmas.Result.{IfOk-weaker}
use Rattle.table_core.proofs.ModifyingPlans.{granted_anew}
use Rattle.table_core.proofs.modifying.grant_anew.Goals as goal

pub returns : goal.returns
returns c =
    let entering = c.args.entering.now in
    IfOk-weaker c.grant_on.result _ _
    (λ plan made. granted_anew entering c.args.row.now c.args.request.now c.as_slice.result.now c.in_ok-terms.terms c.in_ok-consent.consent plan
    c.len-rows.ensures.ordered c.as_slice.ensures c.requires entering.supply.room c.in_ok-terms.ensures c.in_ok-consent.ensures made)
    c.grant_on.ensures
