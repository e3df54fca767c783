use Rattle.std.proofs.Common.{◌+◌, refl, sym, subst, arith}
use Rattle.desk_load.specs.LoadCalls.{opening_place}
use Rattle.desk_load.specs.Loads.{MayBeMade}
use Rattle.desk_load.proofs.Fitting.{opening_may}
use Rattle.desk_load.proofs.Growing.{less-room, asks-as, put_through, if-ok-then}
use Rattle.desk_load.proofs.share.put_through.Goals as goal

pub ask-requires-clause-may : goal.ask-requires-clause-may
ask-requires-clause-may g c =
    subst MayBeMade (sym c.in_ok-opening_call.ensures.call) (opening_may c.args.grant opening_place (omega arith) (omega arith))

pub put_opened_through-put-requires-clause-room : goal.put_opened_through-put-requires-clause-room
put_opened_through-put-requires-clause-room g c = c.in_ok-opened.ensures.room refl 6 c.requires.room

pub returns-clause-room : goal.returns-clause-room
returns-clause-room g c = λ ok m room.
    c.put_opened_through-put.ensures.room ok m
    (c.in_ok-opened.ensures.room refl (m + 6) (less-room _ _ _ (m + 7) (m + 6 + 1) refl (omega arith) room))

pub returns-clause-puts : goal.returns-clause-puts
returns-clause-puts g c =
    let D = g.D.Desk in
    let put = c.put_opened_through-put in
    if-ok-then put.result _ _ put.ensures.puts (λ u more.
    put_through (D.number c.args.desk.now) (D.number c.ask.new.desk) (D.seen c.args.desk.now) (D.seen c.ask.new.desk) (D.seen put.new.desk)
    c.args.progress.now c.ask.new.progress put.new.progress c.ask.ensures.number c.args.ends c.args.grant c.in_ok-opened.opened
    (asks-as _ _ _ _ _ _ _ _ c.in_ok-opening_call.ensures.call c.in_ok-opened.ensures.asks) more)
