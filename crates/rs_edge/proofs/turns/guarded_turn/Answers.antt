use Rattle.std.proofs.Common.{refl}
use Rattle.rs_edge.proofs.Turning.{answered_turn, starved_turn}
use Rattle.rs_edge.proofs.turns.guarded_turn.Goals as goal

pub returns-in-Ok : goal.returns-in-Ok
returns-in-Ok g c past is = answered_turn g.L.Link.link g.K.RequestGuard.kept g.K.RequestGuard.guards c.args.setup.now c.args.last c.args.message.now
    c.now-moment.result
    c.guard-answer.result _ _ _ _ _ _ _ _ _ c.guard-answer.ensures.guards refl refl c.now-moment.ensures.state past is
    c.in-Ok.reply c.in-Ok.ensures.value c.in-Ok.ensures.fed c.say.ensures.written c.say.ensures.fed

pub returns : goal.returns
returns g c past is = starved_turn g.L.Link.link g.K.RequestGuard.kept g.K.RequestGuard.guards c.args.setup.now c.args.last c.args.message.now
    c.now-moment.result
    c.guard-answer.result _ _ _ _ _ _ _ _ _ c.guard-answer.ensures.guards refl refl c.now-moment.ensures.state past is
    c.say_busy.ensures.written c.say_busy.ensures.starved
