use Rattle.histories.specs.Turns.{IsTurn}
use Rattle.serving.specs.Desks.{desk_backend}
use Rattle.serving.proofs.MessageTurnLemmas.{turn-so}
use Rattle.test_adding.specs.Adding.{adding}
use Rattle.test_adding.specs.Bytewise.{byte_face, IsByteTurn}
use Rattle.test_adding.proofs.TwoEntries.{plain_so}
use Rattle.test_adding.proofs.bytewise.BytewiseTurnTaker.turn.Goals as goal

pub returns : goal.returns
returns g c h seen =
    turn-so (desk_backend g.D.Desk.rules g.D.Desk.number g.D.Desk.home g.D.Desk.seen c.args.self.now.start) (IsTurn adding byte_face c.args.self.now.start)
    (IsByteTurn c.args.self.now.start) c.args.last c.args.message.now (plain_so c.args.self.now.start c.args.last c.args.message.now c.if-message-eq253.false)
    _ h _ _ _ _ _ _ _ _ (c.take_turn.ensures h seen)
