use Rattle.std.proofs.Common.{[], ◌∷◌, ◌++◌, List, ℕ, ap, subst, refl, ◌∙◌, true, false, arith}
use Rattle.histories.specs.History.{Legal, entry_of}
use Rattle.histories.specs.Turns.{IsTurn, direct, called, lapsed, starved, unsaid}
use Rattle.serving.specs.Desks.{desk_backend}
use Rattle.serving.specs.MessageTurns.{HasWrittenText}
use Rattle.serving.proofs.MessageTurnLemmas.{follows_on, follows_none, says_so, asks_so, entered-none, entered-reply, entered-lapse, turn-of, entered_said}
use Rattle.serving.proofs.message_turn.take_turn.Goals as goal

pub enter-requires-clause-room : goal.enter-requires-clause-room
enter-requires-clause-room g c =
    let short = c.requires.short in
    (c.requires.history, c.requires.was_seen, omega (arith, short))

pub returns-in-Ok-Say : goal.returns-in-Ok-Say
returns-in-Ok-Say g c h seen =
    let law = g.V.M.Machine.law in
    let rules = g.V.Server.rules c.args.server.now in
    let K = desk_backend g.D.Desk.rules g.D.Desk.number g.D.Desk.home g.D.Desk.seen rules in
    let t = c.now-moment.result in
    let none = entered-none K c.args.desk.now h t _ _ seen c.now-moment.ensures.state in
    let said = c.in-Ok-Say.response in
    let is = says_so law g.V.Server.face g.V.Server.text rules c.args.last c.args.message.now t c.in-Ok-Say.field-0 c.in-Ok-Say.ensures said
    c.in-Ok-Say.field-0-is in
    turn-of K (IsTurn law g.V.Server.face rules) c.args.last c.args.message.now _ h _ _ t [] _ _ _ _ _ _ _ (g.V.Server.text said) true none (omega arith)
    c.say.ensures.written (follows_on _ c.say.ensures.fed) (direct _ _ _ is)

pub respond-requires : goal.respond-requires
respond-requires g c =
    let law = g.V.M.Machine.law in
    let x = c.in-Ok.ensures.entered c.requires.history c.requires.was_seen in
    entered_said law (g.D.Desk.rules c.args.desk.now) g.V.Server.can_say g.met.V.Server.says_all (g.D.Desk.number c.args.desk.now) c.requires.history
    c.now-moment.result
    x.0 c.in-Ok-Ask.call c.in-Ok.reply (g.D.Desk.seen c.enter.new.desk)
    (λ k seen. subst (λ r. Legal law r k) c.in-Ok.ensures.rules (g.met.D.Desk.legal c.enter.new.desk k seen)) x.2

pub returns-in-Ok-respond : goal.returns-in-Ok-respond
returns-in-Ok-respond g c h seen =
    let law = g.V.M.Machine.law in
    let rules = g.V.Server.rules c.args.server.now in
    let K = desk_backend g.D.Desk.rules g.D.Desk.number g.D.Desk.home g.D.Desk.seen rules in
    let t = c.now-moment.result in
    let none = entered-none K c.args.desk.now h t _ _ seen c.now-moment.ensures.state in
    let call = c.in-Ok-Ask.call in
    let asks = asks_so law g.V.Server.face g.V.Server.text rules c.args.last c.args.message.now t c.in-Ok-Ask.field-0 c.in-Ok-Ask.ensures call
    c.in-Ok-Ask.field-0-is in
    let x = c.in-Ok.ensures.entered h seen in
    let e = entry_of law (g.D.Desk.rules c.args.desk.now) (h ++ x.2.others) (g.D.Desk.number c.args.desk.now) t x.0 call in
    let entered = entered-reply g.D.Desk.rules g.D.Desk.number g.D.Desk.home g.D.Desk.seen rules law c.args.desk.now c.args.desk.now c.enter.new.desk h [] h t _
    _ _ none
    c.in-Ok.ensures.rules c.in-Ok.ensures.number c.in-Ok.ensures.home x.0 x.1 call c.in-Ok.reply x.2 in
    turn-of K (IsTurn law g.V.Server.face rules) c.args.last c.args.message.now _ h _ _ t (e ∷ []) _ _ _ _ _ _ _
    (g.V.Server.face.prints rules c.args.last e.reply) true
    entered (omega arith)
    (subst (λ (b : List ℕ). HasWrittenText b (g.S.Device.told c.args.conn.now) (g.S.Device.told c.say-in-Ok-respond.new.conn)
    (g.S.Device.faults c.args.conn.now) (g.S.Device.faults c.say-in-Ok-respond.new.conn) c.say-in-Ok-respond.result)
    (c.in-Ok-respond.ensures ∙ ap (g.V.Server.face.prints rules c.args.last) x.2.reply_is) c.say-in-Ok-respond.ensures.written)
    (follows_on _ c.say-in-Ok-respond.ensures.fed) (called c.args.message.now e (asks x.0))

pub returns-in-Ok : goal.returns-in-Ok
returns-in-Ok g c h seen =
    let law = g.V.M.Machine.law in
    let rules = g.V.Server.rules c.args.server.now in
    let K = desk_backend g.D.Desk.rules g.D.Desk.number g.D.Desk.home g.D.Desk.seen rules in
    let t = c.now-moment.result in
    let none = entered-none K c.args.desk.now h t _ _ seen c.now-moment.ensures.state in
    let call = c.in-Ok-Ask.call in
    let asks = asks_so law g.V.Server.face g.V.Server.text rules c.args.last c.args.message.now t c.in-Ok-Ask.field-0 c.in-Ok-Ask.ensures call
    c.in-Ok-Ask.field-0-is in
    let x = c.in-Ok.ensures.entered h seen in
    let e = entry_of law (g.D.Desk.rules c.args.desk.now) (h ++ x.2.others) (g.D.Desk.number c.args.desk.now) t x.0 call in
    let entered = entered-reply g.D.Desk.rules g.D.Desk.number g.D.Desk.home g.D.Desk.seen rules law c.args.desk.now c.args.desk.now c.enter.new.desk h [] h t _
    _ _ none
    c.in-Ok.ensures.rules c.in-Ok.ensures.number c.in-Ok.ensures.home x.0 x.1 call c.in-Ok.reply x.2 in
    turn-of K (IsTurn law g.V.Server.face rules) c.args.last c.args.message.now _ h _ _ t (e ∷ []) _ _ _ _ _ _ _ g.V.Server.face.busy false
    entered (omega arith) c.say_busy.ensures.written (follows_none _ c.say_busy.ensures.starved) (unsaid c.args.message.now e (asks x.0))

pub returns-in-Ok-Ask : goal.returns-in-Ok-Ask
returns-in-Ok-Ask g c h seen =
    let law = g.V.M.Machine.law in
    let rules = g.V.Server.rules c.args.server.now in
    let K = desk_backend g.D.Desk.rules g.D.Desk.number g.D.Desk.home g.D.Desk.seen rules in
    let t = c.now-moment.result in
    let none = entered-none K c.args.desk.now h t _ _ seen c.now-moment.ensures.state in
    let call = c.in-Ok-Ask.call in
    let asks = asks_so law g.V.Server.face g.V.Server.text rules c.args.last c.args.message.now t c.in-Ok-Ask.field-0 c.in-Ok-Ask.ensures call
    c.in-Ok-Ask.field-0-is in
    let x = c.in-Err-enter.ensures.entered h seen in
    let e = entry_of law (g.D.Desk.rules c.args.desk.now) (h ++ x.2.others) (g.D.Desk.number c.args.desk.now) t x.0 law.lapse in
    let entered = entered-lapse g.D.Desk.rules g.D.Desk.number g.D.Desk.home g.D.Desk.seen rules law c.args.desk.now c.args.desk.now c.enter.new.desk h [] h t _
    _ _ none
    c.in-Err-enter.ensures.rules c.in-Err-enter.ensures.number c.in-Err-enter.ensures.home x.0 x.1 x.2 in
    turn-of K (IsTurn law g.V.Server.face rules) c.args.last c.args.message.now _ h _ _ t (e ∷ []) _ _ _ _ _ _ _ g.V.Server.face.busy false
    entered (omega arith) c.say_busy-in-Err-enter.ensures.written (follows_none _ c.say_busy-in-Err-enter.ensures.starved)
    (lapsed c.args.message.now e call (asks x.0) refl)

pub returns : goal.returns
returns g c h seen =
    let law = g.V.M.Machine.law in
    let rules = g.V.Server.rules c.args.server.now in
    let K = desk_backend g.D.Desk.rules g.D.Desk.number g.D.Desk.home g.D.Desk.seen rules in
    let t = c.now-moment.result in
    let none = entered-none K c.args.desk.now h t _ _ seen c.now-moment.ensures.state in
    turn-of K (IsTurn law g.V.Server.face rules) c.args.last c.args.message.now _ h _ _ t [] _ _ _ _ _ _ _ g.V.Server.face.busy false none (omega arith)
    c.say_busy-in-Err.ensures.written (follows_none _ c.say_busy-in-Err.ensures.starved) (starved _ _)
