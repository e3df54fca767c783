use Rattle.desk_load.proofs.Growing.{asks-entered, room-after}
use Rattle.desk_load.proofs.asking.ask.Goals as goal

pub returns-clause-asks : goal.returns-clause-asks
returns-clause-asks g c = λ h s.
    let D = g.D.Desk in
    asks-entered (D.rules c.args.desk.now) (D.number c.args.desk.now) h c.draw-draw.result c.args.call c.in_ok-reply.reply _ c.args.progress.now _
    (c.in_ok-reply.ensures.ok h s) c.draw-draw.ensures.draw c.draw-draw.ensures.next c.count.ensures.counted

pub returns-clause-room : goal.returns-clause-room
returns-clause-room g c = λ _ m room.
    let D = g.D.Desk in
    room-after (D.number c.args.desk.now) _ (D.seen c.args.desk.now) _ c.args.call c.in_ok-reply.reply c.args.progress.now _ m c.submit.ensures.number room
    (returns-clause-asks g c)
