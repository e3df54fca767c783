use Rattle.std.proofs.Common.{◌+◌, [], ◌∷◌, refl, sym, subst, arith}
use Rattle.desk_load.specs.LoadCalls.{marked, unmarked, cancellation_place, cancellation_of, question_about, calls_after}
use Rattle.desk_load.specs.Loads.{MayBeMade, PutsThrough, AreMade}
use Rattle.desk_load.proofs.Fitting.{cancellation_may}
use Rattle.desk_load.proofs.Growing.{less-room, asks-as, made_none, made_behind, if-ok-then}
use Rattle.desk_load.proofs.share.end_grant.Goals as goal

pub returns-then-not-ends-clause-ends : goal.returns-then-not-ends-clause-ends
returns-then-not-ends-clause-ends g c = λ h s.
    let D = g.D.Desk in
    subst (λ b. PutsThrough (AreMade (calls_after b c.args.grant c.args.opened.now c.args.rotated.now)) (D.number c.args.desk.now) (D.seen c.args.desk.now) h
    c.args.progress.now c.args.progress.now)
    (sym c.if-not-ends.true) (made_none _ (D.seen c.args.desk.now) h c.args.progress.now s)

pub ask-requires-clause-may : goal.ask-requires-clause-may
ask-requires-clause-may g c =
    subst MayBeMade (sym c.in_ok-cancellation_of.ensures.call) (cancellation_may c.args.grant cancellation_place c.args.opened.now (omega arith) (omega arith))

pub returns-clause-ends : goal.returns-clause-ends
returns-clause-ends g c =
    let D = g.D.Desk in
    let opened = c.args.opened.now in
    let rotated = c.args.rotated.now in
    if-ok-then c.ask_about.result _ _ c.ask_about.ensures.asks (λ u about. λ h s.
    subst (λ b. PutsThrough (AreMade (calls_after b c.args.grant opened rotated)) (D.number c.args.desk.now) (D.seen c.ask_about.new.desk) h
    c.args.progress.now c.ask_about.new.progress)
    (sym c.if-not-ends.false)
    (made_behind (D.number c.args.desk.now) (D.number c.ask.new.desk) (D.seen c.args.desk.now) (D.seen c.ask.new.desk) (D.seen c.ask_about.new.desk)
    c.args.progress.now c.ask.new.progress c.ask_about.new.progress c.ask.ensures.number
    (marked c.args.grant cancellation_place (cancellation_of opened)) (unmarked (question_about rotated) ∷ [])
    (λ k seen. (c.in_ok-ask.field-0, asks-as _ _ _ _ _ _ _ _ c.in_ok-cancellation_of.ensures.call c.in_ok-ask.ensures.asks k seen))
    (made_behind (D.number c.ask.new.desk) (D.number c.ask_about.new.desk) (D.seen c.ask.new.desk) (D.seen c.ask_about.new.desk)
    (D.seen c.ask_about.new.desk) c.ask.new.progress c.ask_about.new.progress c.ask_about.new.progress c.ask_about.ensures.number
    (unmarked (question_about rotated)) [] about (λ k seen. made_none _ (D.seen c.ask_about.new.desk) k c.ask_about.new.progress seen)) h s))

pub returns-clause-room : goal.returns-clause-room
returns-clause-room g c = λ ok m room.
    c.ask_about.ensures.room ok m (c.in_ok-ask.ensures.room refl (m + 1) (less-room _ _ _ (m + 2) (m + 1 + 1) refl (omega arith) room))
