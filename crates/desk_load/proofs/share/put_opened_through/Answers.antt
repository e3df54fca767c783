use Rattle.std.proofs.Common.{◌+◌, refl, sym, subst, arith}
use Rattle.desk_load.specs.LoadCalls.{rotation_place}
use Rattle.desk_load.specs.Loads.{MayBeMade}
use Rattle.desk_load.proofs.Fitting.{rotation_may}
use Rattle.desk_load.proofs.Growing.{less-room, asks-as, opened_through, if-ok-then}
use Rattle.desk_load.proofs.share.put_opened_through.Goals as goal

pub ask-requires-clause-may : goal.ask-requires-clause-may
ask-requires-clause-may g c =
    subst MayBeMade (sym c.in_ok-rotation_of.ensures.call) (rotation_may c.args.grant rotation_place c.args.opened.now (omega arith) (omega arith))

pub ask-requires-clause-room : goal.ask-requires-clause-room
ask-requires-clause-room g c = less-room _ _ _ 5 1 refl (omega arith) (c.in_ok-ask_about.ensures.room refl 5 c.requires.room)

pub put_rotated_through-put-requires-clause-room : goal.put_rotated_through-put-requires-clause-room
put_rotated_through-put-requires-clause-room g c = c.in_ok-rotated.ensures.room refl 4 (c.in_ok-ask_about.ensures.room refl 5 c.requires.room)

pub returns-clause-room : goal.returns-clause-room
returns-clause-room g c = λ ok m room.
    let r1 = c.in_ok-ask_about.ensures.room refl (m + 5) (less-room _ _ _ (m + 6) (m + 5 + 1) refl (omega arith) room) in
    let r2 = c.in_ok-rotated.ensures.room refl (m + 4) (less-room _ _ _ (m + 5) (m + 4 + 1) refl (omega arith) r1) in
    c.put_rotated_through-put.ensures.room ok m r2

pub returns-clause-puts : goal.returns-clause-puts
returns-clause-puts g c =
    let D = g.D.Desk in
    let put = c.put_rotated_through-put in
    if-ok-then put.result _ _ put.ensures.puts (λ u more.
    opened_through (D.number c.args.desk.now) (D.number c.ask_about.new.desk) (D.number c.ask.new.desk) (D.seen c.args.desk.now)
    (D.seen c.ask_about.new.desk) (D.seen c.ask.new.desk) (D.seen put.new.desk) c.args.progress.now c.ask_about.new.progress c.ask.new.progress
    put.new.progress c.ask_about.ensures.number c.ask.ensures.number c.args.ends c.args.grant c.args.opened.now c.in_ok-rotated.rotated
    c.in_ok-ask_about.ensures.asks
    (asks-as _ _ _ _ _ _ _ _ c.in_ok-rotation_of.ensures.call c.in_ok-rotated.ensures.asks) more)
