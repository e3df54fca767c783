use Rattle.std.proofs.Common.{subst}
use Rattle.histories.specs.History.{Legal}
use Rattle.gnap_objects.specs.CallsFit.{ReplyFits}
use Rattle.grant_machine.specs.Gnap.{gnap}
use Rattle.as_edge.specs.EdgeSessions.{says_all}
use Rattle.serving.proofs.MessageTurnLemmas.{entered_said}
use Rattle.derived_tokens.specs.Answering.{replied, unreplied}
use Rattle.derived_tokens.proofs.deriving_server.enter_and_reply.Goals as goal

pub say_reply-ended-requires : goal.say_reply-ended-requires
say_reply-ended-requires g c =
    let x = c.in-Ok.ensures.entered c.requires.room.0 c.requires.room.1 in
    entered_said gnap (g.D.Desk.rules c.args.desk.now) ReplyFits says_all (g.D.Desk.number c.args.desk.now) c.requires.room.0 c.args.moment
    x.0 c.args.call c.in-Ok.reply (g.D.Desk.seen c.enter.new.desk)
    (λ k seen. subst (λ r. Legal gnap r k) c.in-Ok.ensures.rules (g.met.D.Desk.legal c.enter.new.desk k seen)) x.2

pub returns-in-Ok-clause-replied : goal.returns-in-Ok-clause-replied
returns-in-Ok-clause-replied g c h seen = let x = c.in-Ok.ensures.entered h seen in replied x.0 x.1 c.in-Ok.reply x.2 c.say_reply-ended.ensures

pub returns-in-Err-clause-replied : goal.returns-in-Err-clause-replied
returns-in-Err-clause-replied g c h seen =
    let x = c.in-Err.ensures.entered h seen in
    unreplied x.0 x.1 x.2 c.say_starved.ensures.written c.say_starved.ensures.starved
