use Rattle.std.proofs.Common.{arith}
use Rattle.histories.proofs.OwnEntries.{places_own}
use Rattle.serving.proofs.MessageTurnLemmas.{submitted}
use Rattle.serving.proofs.message_turn.enter.Goals as goal

pub submit-requires-clause-room : goal.submit-requires-clause-room
submit-requires-clause-room g c =
    let h = c.requires.room.0 in
    let size = places_own 0 (g.D.Desk.number c.args.desk.now) h in
    let short = c.requires.room.2 in
    (h, c.requires.room.1, omega (arith, size, short))

pub returns-clause-entered : goal.returns-clause-entered
returns-clause-entered g c h seen =
    submitted g.D.M.Machine.law (g.D.Desk.rules c.args.desk.now) (g.D.Desk.number c.args.desk.now) h c.args.moment c.args.call (g.D.Desk.seen c.args.desk.now)
    (g.D.Desk.seen c.submit.new.self) (g.G.Counted.state c.args.gear.now) (g.G.Counted.state c.draw-draw.new.self) c.draw-draw.result c.draw-draw.ensures
    c.submit.result c.submit.ensures.ok c.submit.ensures.err seen
