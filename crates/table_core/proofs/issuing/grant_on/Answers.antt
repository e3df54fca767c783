use Rattle.std.proofs.Common.{refl}
use Rattle.table_core.proofs.PlanLemmas.{grants_on}
use Rattle.table_core.proofs.issuing.grant_on.Goals as goal

pub returns : goal.returns
returns c =
    let granting = c.in_ok-granting.granting in
    grants_on c.args.entering.now c.args.row.now c.args.asks.now c.args.single c.args.subject c.args.retires c.args.terms c.args.consent _
    granting.reply c.value-door.result granting.tokens refl c.in_ok-granting.ensures.reply c.value-door.ensures
    c.in_ok-granting.ensures.tokens
