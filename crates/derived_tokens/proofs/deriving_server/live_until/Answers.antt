use Rattle.std.proofs.Common.{sym, subst}
use Rattle.histories.specs.Steps.{Enters}
use Rattle.signed_calls.specs.declared.signed.Signed.{Signed}
use Rattle.grant_machine.specs.Gnap.{gnap}
use Rattle.derived_tokens.proofs.Turning.{question_fits, question_no_lapse}
use Rattle.derived_tokens.proofs.deriving_server.live_until.Goals as goal

pub enter-requires-clause-fits : goal.enter-requires-clause-fits
enter-requires-clause-fits g c = question_fits c.question.result c.args.asker c.args.parent c.question.ensures c.requires.asker

pub enter-requires-clause-no_lapse : goal.enter-requires-clause-no_lapse
enter-requires-clause-no_lapse g c = question_no_lapse c.question.result c.args.asker c.args.parent c.question.ensures

pub returns-clause-told : goal.returns-clause-told
returns-clause-told g c h seen =
    let x = c.in_ok-told.ensures.entered h seen in (
      x.0,
      x.1,
      c.in_ok-told.told,
      sym c.active_until-end.ensures,
      subst (λ (asked : Signed). Enters gnap (g.D.Desk.rules c.args.desk.now) (g.D.Desk.number c.args.desk.now) h c.args.moment x.0 asked c.in_ok-told.told
          (g.D.Desk.seen c.enter.new.desk)) c.question.ensures x.2,
    )
