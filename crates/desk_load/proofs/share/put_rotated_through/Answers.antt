use Rattle.std.proofs.Common.{◌+◌, ◌∷◌, refl, arith}
use Rattle.desk_load.specs.LoadCalls.{unmarked, question_about, calls_after}
use Rattle.desk_load.proofs.Growing.{less-room, made_behind, if-ok-then}
use Rattle.desk_load.proofs.share.put_rotated_through.Goals as goal

pub ask_about-requires-2-clause-room : goal.ask_about-requires-2-clause-room
ask_about-requires-2-clause-room g c = less-room _ _ _ 3 1 refl (omega arith) (c.in_ok-ask_about.ensures.room refl 3 c.requires.room)

pub end_grant-requires-clause-room : goal.end_grant-requires-clause-room
end_grant-requires-clause-room g c = c.in_ok-ask_about-2.ensures.room refl 2 (c.in_ok-ask_about.ensures.room refl 3 c.requires.room)

pub returns-clause-room : goal.returns-clause-room
returns-clause-room g c = λ ok m room.
    let r1 = c.in_ok-ask_about.ensures.room refl (m + 3) (less-room _ _ _ (m + 4) (m + 3 + 1) refl (omega arith) room) in
    let r2 = c.in_ok-ask_about-2.ensures.room refl (m + 2) (less-room _ _ _ (m + 3) (m + 2 + 1) refl (omega arith) r1) in
    c.end_grant.ensures.room ok m r2

pub returns-clause-puts : goal.returns-clause-puts
returns-clause-puts g c =
    let D = g.D.Desk in
    let opened = c.args.opened.now in
    let rotated = c.args.rotated.now in
    if-ok-then c.end_grant.result _ _ c.end_grant.ensures.ends (λ u end.
    made_behind (D.number c.args.desk.now) (D.number c.ask_about.new.desk) (D.seen c.args.desk.now) (D.seen c.ask_about.new.desk)
    (D.seen c.end_grant.new.desk) c.args.progress.now c.ask_about.new.progress c.end_grant.new.progress c.ask_about.ensures.number
    (unmarked (question_about opened)) (unmarked (question_about rotated) ∷ calls_after c.args.ends c.args.grant opened rotated)
    c.in_ok-ask_about.ensures.asks
    (made_behind (D.number c.ask_about.new.desk) (D.number c.ask_about-2.new.desk) (D.seen c.ask_about.new.desk) (D.seen c.ask_about-2.new.desk)
    (D.seen c.end_grant.new.desk) c.ask_about.new.progress c.ask_about-2.new.progress c.end_grant.new.progress c.ask_about-2.ensures.number
    (unmarked (question_about rotated)) (calls_after c.args.ends c.args.grant opened rotated) c.in_ok-ask_about-2.ensures.asks end))
