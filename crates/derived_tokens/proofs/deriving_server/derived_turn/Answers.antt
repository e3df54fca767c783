use Rattle.std.proofs.Common.{◌∙◌, [], ◌∷◌, ◌++◌, refl, arith}
use Rattle.histories.specs.History.{entry_of}
use Rattle.grant_machine.specs.Gnap.{gnap}
use Rattle.derived_tokens.specs.DerivedTurns.{question}
use Rattle.derived_tokens.proofs.Turning.{ending_fits, ending_no_lapse, room-again, question-lapsed, parent-inactive, begin-turn}
use Rattle.derived_tokens.proofs.deriving_server.derived_turn.Goals as goal

pub live_until-requires-clause-room : goal.live_until-requires-clause-room
live_until-requires-clause-room g c =
    let short = c.requires.room.short in
    (c.requires.room.history, c.requires.room.was_seen, omega (arith, short))

pub enter_and_reply-requires-clause-fits : goal.enter_and_reply-requires-clause-fits
enter_and_reply-requires-clause-fits g c =
    ending_fits c.ending-begun.result c.in-Ok-Some.end c.args.begin c.ending-begun.ensures c.requires.derivable.2 c.requires.derivable.1

pub enter_and_reply-requires-clause-no_lapse : goal.enter_and_reply-requires-clause-no_lapse
enter_and_reply-requires-clause-no_lapse g c = ending_no_lapse c.ending-begun.result c.in-Ok-Some.end c.args.begin c.ending-begun.ensures c.requires.derivable.2

pub enter_and_reply-requires-clause-room : goal.enter_and_reply-requires-clause-room
enter_and_reply-requires-clause-room g c =
    let h = c.requires.room.history in
    let x = c.in-Ok-Some.ensures.told h c.requires.room.was_seen in
    let e = entry_of gnap (g.D.Desk.rules c.args.desk.now) (h ++ x.4.others) (g.D.Desk.number c.args.desk.now) c.args.moment x.0
    (question c.args.asker c.args.parent) in
    (h ++ x.4.others ++ e ∷ [], x.4.seen_now, room-again _ _ c.in-Ok-Some.ensures.number h x.4.others e x.4.not_mine refl c.requires.room.short)

pub returns-in-Err : goal.returns-in-Err
returns-in-Err g c h gear seen first =
    let x = c.in-Err.ensures.told h seen in
    question-lapsed g.D.Desk.rules g.D.Desk.number g.D.Desk.home g.D.Desk.seen c.args.server.now.pairs c.args.server.now.setup c.args.last c.args.message.now _
    h seen c.args.moment gear _ first
    _ _ _ _ _ _ _ c.in-Err.ensures.rules c.in-Err.ensures.number c.in-Err.ensures.home x.0 x.1 c.args.parent c.args.asker c.args.begin c.requires.step x.2
    c.say_starved.ensures.written c.say_starved.ensures.starved

pub returns-in-Ok-None : goal.returns-in-Ok-None
returns-in-Ok-None g c h gear seen first =
    let x = c.in-Ok-None.ensures.told h seen in
    parent-inactive g.D.Desk.rules g.D.Desk.number g.D.Desk.home g.D.Desk.seen c.args.server.now.pairs c.args.server.now.setup c.args.last c.args.message.now _
    h seen c.args.moment gear _ first
    _ _ _ _ _ _ _ c.in-Ok-None.ensures.rules c.in-Ok-None.ensures.number c.in-Ok-None.ensures.home x.0 x.1 c.args.parent c.args.asker c.args.begin c.requires.step
    (question c.args.asker c.args.parent) refl x.2 x.4 (x.3 ∙ c.in-Ok-None.field-0-is) c.say_direct.ensures

pub returns-in-Ok-Some : goal.returns-in-Ok-Some
returns-in-Ok-Some g c h gear seen first =
    let x = c.in-Ok-Some.ensures.told h seen in
    let k = h ++ x.4.others ++ entry_of gnap (g.D.Desk.rules c.args.desk.now) (h ++ x.4.others) (g.D.Desk.number c.args.desk.now) c.args.moment x.0
    (question c.args.asker c.args.parent) ∷ [] in
    begin-turn g.D.Desk.rules g.D.Desk.number g.D.Desk.home g.D.Desk.seen c.args.server.now.pairs c.args.server.now.setup c.args.last c.args.message.now _ h
    seen c.args.moment gear _ first
    _ _ _ _ _ _ _ c.in-Ok-Some.ensures.rules c.in-Ok-Some.ensures.number c.in-Ok-Some.ensures.home x.0 x.1 c.args.parent c.args.asker c.args.begin c.requires.step
    (question c.args.asker c.args.parent) refl x.2 x.4 c.in-Ok-Some.end (x.3 ∙ c.in-Ok-Some.field-0-is) _ _
    c.enter_and_reply.ensures.rules c.enter_and_reply.ensures.number c.enter_and_reply.ensures.home c.ending-begun.result c.ending-begun.ensures
    (c.enter_and_reply.ensures.replied k x.4.seen_now)
