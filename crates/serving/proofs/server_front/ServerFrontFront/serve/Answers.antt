use Rattle.histories.specs.Turns.{IsTurn}
use Rattle.serving.specs.Connections.{Session}
use Rattle.serving.specs.declared.ends.ConnectionEnd.{ConnectionEnd}
use Rattle.serving.proofs.LogLemmas.{served-at-desk, same-desk}
use Rattle.serving.proofs.server_front.ServerFrontFront.serve.Goals as goal

pub serve_connection-requires-clause-room : goal.serve_connection-requires-clause-room
serve_connection-requires-clause-room g c = record {
  rules_are = c.requires.rules;
  history = c.requires.room.0;
  was_seen = c.requires.room.1;
  short = c.requires.room.2;
}

pub returns-clause-rules : goal.returns-clause-rules
returns-clause-rules g c =
    (same-desk g.D.Desk.rules g.D.Desk.number g.D.Desk.home g.D.Desk.seen _ g.W.MessageReader.wire
    (IsTurn g.V.M.Machine.law g.V.Server.face (g.V.Server.rules c.args.self.now.server)) _ _ _ _ _ _ c.serve_connection.ensures
    c.requires.room.0 c.requires.room.1).0

pub returns-clause-number : goal.returns-clause-number
returns-clause-number g c =
    (same-desk g.D.Desk.rules g.D.Desk.number g.D.Desk.home g.D.Desk.seen _ g.W.MessageReader.wire
    (IsTurn g.V.M.Machine.law g.V.Server.face (g.V.Server.rules c.args.self.now.server)) _ _ _ _ _ _ c.serve_connection.ensures
    c.requires.room.0 c.requires.room.1).1

pub returns-clause-home : goal.returns-clause-home
returns-clause-home g c =
    (same-desk g.D.Desk.rules g.D.Desk.number g.D.Desk.home g.D.Desk.seen _ g.W.MessageReader.wire
    (IsTurn g.V.M.Machine.law g.V.Server.face (g.V.Server.rules c.args.self.now.server)) _ _ _ _ _ _ c.serve_connection.ensures
    c.requires.room.0 c.requires.room.1).2

pub returns-clause-serves : goal.returns-clause-serves
returns-clause-serves g c h seen =
    let W = g.W.MessageReader.wire in
    let I = IsTurn g.V.M.Machine.law g.V.Server.face (g.V.Server.rules c.args.self.now.server) in
    served-at-desk g.D.Desk.rules g.D.Desk.number g.D.Desk.home g.D.Desk.seen _ W I _ _ _ _ _ _ c.serve_connection.ensures
    (λ conn turns. (ended : ConnectionEnd _) × Session W I conn turns ended) (λ turns is. (c.serve_connection.result, is)) h seen
