use Rattle.std.proofs.Common.{[], ◌∷◌, ◌++◌, refl, arith}
use Rattle.histories.specs.History.{entry_of}
use Rattle.test_adding.specs.declared.adding.Call.TheVariants.{Add}
use Rattle.test_adding.specs.Adding.{adding}
use Rattle.test_adding.proofs.TwoEntries.{first-lapsed, second-lapsed, both-starved, both-said, room-again}
use Rattle.test_adding.proofs.bytewise.turn_in_two.Goals as goal

pub enter-requires-clause-room : goal.enter-requires-clause-room
enter-requires-clause-room g c =
    let short = c.requires.short in
    (c.requires.history, c.requires.was_seen, omega (arith, short))

pub enter-requires-in-Ok-clause-room : goal.enter-requires-in-Ok-clause-room
enter-requires-in-Ok-clause-room g c =
    let h = c.requires.history in
    let x = c.in-Ok.ensures.entered h c.requires.was_seen in
    let e = entry_of adding (g.D.Desk.rules c.args.desk.now) (h ++ x.2.others) (g.D.Desk.number c.args.desk.now) c.now-moment.result x.0 (Add 250) in
    (h ++ x.2.others ++ e ∷ [], x.2.seen_now, room-again _ _ c.in-Ok.ensures.number h x.2.others e x.2.not_mine refl c.requires.short)

pub returns-in-Err : goal.returns-in-Err
returns-in-Err g c h seen =
    let x = c.in-Err.ensures.entered h seen in
    first-lapsed g.D.Desk.rules g.D.Desk.number g.D.Desk.home g.D.Desk.seen c.args.server.now.start c.args.last _ h seen c.now-moment.result _ _
    c.now-moment.ensures.state _ _ _ _ _ _ _
    c.in-Err.ensures.rules c.in-Err.ensures.number c.in-Err.ensures.home x.0 x.1 x.2 c.say_busy.ensures.written c.say_busy.ensures.starved

pub returns-in-Err-enter : goal.returns-in-Err-enter
returns-in-Err-enter g c h seen =
    let x = c.in-Ok.ensures.entered h seen in
    let k = h ++ x.2.others ++ entry_of adding (g.D.Desk.rules c.args.desk.now) (h ++ x.2.others) (g.D.Desk.number c.args.desk.now) c.now-moment.result x.0
    (Add 250) ∷ [] in
    let y = c.in-Err-enter.ensures.entered k x.2.seen_now in
    second-lapsed g.D.Desk.rules g.D.Desk.number g.D.Desk.home g.D.Desk.seen c.args.server.now.start c.args.last _ h seen c.now-moment.result _ _
    c.now-moment.ensures.state _ _ _ _ _ _ _
    c.in-Ok.ensures.rules c.in-Ok.ensures.number c.in-Ok.ensures.home x.0 x.1 _ x.2 _ _ c.in-Err-enter.ensures.rules c.in-Err-enter.ensures.number
    c.in-Err-enter.ensures.home y.0 y.1 y.2
    c.say_busy-in-Err-enter.ensures.written c.say_busy-in-Err-enter.ensures.starved

pub returns-in-Err-respond : goal.returns-in-Err-respond
returns-in-Err-respond g c h seen =
    let x = c.in-Ok.ensures.entered h seen in
    let k = h ++ x.2.others ++ entry_of adding (g.D.Desk.rules c.args.desk.now) (h ++ x.2.others) (g.D.Desk.number c.args.desk.now) c.now-moment.result x.0
    (Add 250) ∷ [] in
    let y = c.in-Ok-enter.ensures.entered k x.2.seen_now in
    both-starved g.D.Desk.rules g.D.Desk.number g.D.Desk.home g.D.Desk.seen c.args.server.now.start c.args.last _ h seen c.now-moment.result _ _
    c.now-moment.ensures.state _ _ _ _ _ _ _
    c.in-Ok.ensures.rules c.in-Ok.ensures.number c.in-Ok.ensures.home x.0 x.1 _ x.2 _ _ c.in-Ok-enter.ensures.rules c.in-Ok-enter.ensures.number
    c.in-Ok-enter.ensures.home y.0 y.1 _ y.2
    c.say_busy-in-Err-respond.ensures.written c.say_busy-in-Err-respond.ensures.starved

pub returns-in-Ok-respond : goal.returns-in-Ok-respond
returns-in-Ok-respond g c h seen =
    let x = c.in-Ok.ensures.entered h seen in
    let k = h ++ x.2.others ++ entry_of adding (g.D.Desk.rules c.args.desk.now) (h ++ x.2.others) (g.D.Desk.number c.args.desk.now) c.now-moment.result x.0
    (Add 250) ∷ [] in
    let y = c.in-Ok-enter.ensures.entered k x.2.seen_now in
    both-said g.D.Desk.rules g.D.Desk.number g.D.Desk.home g.D.Desk.seen c.args.server.now.start c.args.last _ h seen c.now-moment.result _ _
    c.now-moment.ensures.state _ _ _ _ _ _ _
    c.in-Ok.ensures.rules c.in-Ok.ensures.number c.in-Ok.ensures.home x.0 x.1 _ x.2 _ _ c.in-Ok-enter.ensures.rules c.in-Ok-enter.ensures.number
    c.in-Ok-enter.ensures.home y.0 y.1 _ y.2
    _ c.in-Ok-respond.ensures c.say.ensures.written c.say.ensures.fed
