use Rattle.std.proofs.Common.{◌∙◌, ap, arith}
use Rattle.derivation_requests.specs.declared.derive_calls.DeriveStep.TheVariants.{Plain}
use Rattle.derived_tokens.proofs.Turning.{direct-turn, ask-turn}
use Rattle.derived_tokens.proofs.deriving_server.plain_turn.Goals as goal

pub enter_and_reply-requires-clause-room : goal.enter_and_reply-requires-clause-room
enter_and_reply-requires-clause-room g c =
    let short = c.requires.room.short in
    (c.requires.room.history, c.requires.room.was_seen, omega (arith, short))

pub returns-in-Direct : goal.returns-in-Direct
returns-in-Direct g c h gear seen first =
    direct-turn g.D.Desk.rules g.D.Desk.number g.D.Desk.home g.D.Desk.seen c.args.server.now.pairs c.args.server.now.setup c.args.last c.args.message.now _ h
    seen c.args.moment gear _ first
    _ _ _ _ _ c.in-Direct.answer (c.requires.step ∙ ap Plain c.in-Direct.is) c.say_direct.ensures

pub returns-in-Ask : goal.returns-in-Ask
returns-in-Ask g c h gear seen first =
    ask-turn g.D.Desk.rules g.D.Desk.number g.D.Desk.home g.D.Desk.seen c.args.server.now.pairs c.args.server.now.setup c.args.last c.args.message.now _ h
    seen c.args.moment gear _ first
    _ _ _ _ _ _ _ c.enter_and_reply.ensures.rules c.enter_and_reply.ensures.number c.enter_and_reply.ensures.home c.in-Ask.call
    (c.requires.step ∙ ap Plain c.in-Ask.is) (c.enter_and_reply.ensures.replied h seen)
