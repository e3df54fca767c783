use Rattle.std.proofs.Common.{◌∙◌, ap}
use Rattle.derivation_requests.specs.declared.derive_calls.DeriveStep.TheVariants.{Plain}
use Rattle.derived_tokens.proofs.Turning.{starved-turn}
use Rattle.derived_tokens.proofs.deriving_server.DerivingServerTurnTaker.turn.Goals as goal

pub returns-in-Err : goal.returns-in-Err
returns-in-Err g c h seen =
    starved-turn g.D.Desk.rules g.D.Desk.number g.D.Desk.home g.D.Desk.seen c.args.self.now.pairs c.args.self.now.setup c.args.last c.args.message.now _ h seen
    c.now-moment.result _ _ c.now-moment.ensures.state
    _ _ _ _ _ c.say_starved.ensures.written c.say_starved.ensures.starved
