use Rattle.serving.proofs.LogLemmas.{served-at-desk, same-desk}
use Rattle.http_serving.specs.EdgeWire.{edge_wire}
use Rattle.derived_tokens.specs.DerivedTurns.{IsDerivingTurn}
use Rattle.derived_tokens.specs.DerivedSessions.{IsDerivingSession}
use Rattle.derived_tokens.proofs.deriving_server.DerivingServerFront.serve.Goals as goal

pub serve_connection-requires-clause-room : goal.serve_connection-requires-clause-room
serve_connection-requires-clause-room g c = record {
  rules_are = c.requires.rules;
  history = c.requires.room.0;
  was_seen = c.requires.room.1;
  short = c.requires.room.2;
}

pub returns-clause-rules : goal.returns-clause-rules
returns-clause-rules g c =
    (same-desk g.D.Desk.rules g.D.Desk.number g.D.Desk.home g.D.Desk.seen _ edge_wire (IsDerivingTurn c.args.self.now.pairs c.args.self.now.setup) _ _ _ _ _ _
    c.serve_connection.ensures
    c.requires.room.0 c.requires.room.1).0

pub returns-clause-number : goal.returns-clause-number
returns-clause-number g c =
    (same-desk g.D.Desk.rules g.D.Desk.number g.D.Desk.home g.D.Desk.seen _ edge_wire (IsDerivingTurn c.args.self.now.pairs c.args.self.now.setup) _ _ _ _ _ _
    c.serve_connection.ensures
    c.requires.room.0 c.requires.room.1).1

pub returns-clause-home : goal.returns-clause-home
returns-clause-home g c =
    (same-desk g.D.Desk.rules g.D.Desk.number g.D.Desk.home g.D.Desk.seen _ edge_wire (IsDerivingTurn c.args.self.now.pairs c.args.self.now.setup) _ _ _ _ _ _
    c.serve_connection.ensures
    c.requires.room.0 c.requires.room.1).2

pub returns-clause-serves : goal.returns-clause-serves
returns-clause-serves g c h seen =
    served-at-desk g.D.Desk.rules g.D.Desk.number g.D.Desk.home g.D.Desk.seen _ edge_wire (IsDerivingTurn c.args.self.now.pairs c.args.self.now.setup) _ _ _ _ _
    _ c.serve_connection.ensures
    (IsDerivingSession c.args.self.now.pairs c.args.self.now.setup) (λ turns is. (c.serve_connection.result, is)) h seen
