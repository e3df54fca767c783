use Rattle.std.proofs.Common.{sym, subst}
use Rattle.desk_load.specs.Loads.{MayBeMade}
use Rattle.desk_load.proofs.Fitting.{question_may}
use Rattle.desk_load.proofs.Growing.{asks-as}
use Rattle.desk_load.proofs.share.ask_about.Goals as goal

pub ask-requires-clause-may : goal.ask-requires-clause-may
ask-requires-clause-may g c = subst MayBeMade (sym c.in_ok-question_about.ensures.call) (question_may c.args.reply.now)

pub returns-clause-asks : goal.returns-clause-asks
returns-clause-asks g c = λ h s.
    (c.in_ok-ask.field-0, asks-as _ _ _ _ _ _ _ _ c.in_ok-question_about.ensures.call c.in_ok-ask.ensures.asks h s)
