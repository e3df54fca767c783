use Rattle.test_cores.proofs.Growing.{short_enough, takes_more}
use Rattle.test_cores.proofs.remembered_nonces.enter.Goals as goal

pub step-requires-clause-short : goal.step-requires-clause-short
step-requires-clause-short g c = short_enough (g.C.Core.stands c.args.core.now) c.args.taken c.requires.few c.requires.taken

pub returns : goal.returns
returns g c = λ ok. takes_more _ (g.C.Core.stands c.args.core.now) _ c.args.taken c.args.sent.at _ _ _ c.requires.taken c.in_ok-step.ensures.ok
