use Rattle.std.proofs.Common.{ℕ, List, subst}
use Rattle.outside.specs.Outside.{HasSent}
use Rattle.outside.specs.declared.device.Failed.{Failed}
use Rattle.http_edge.proofs.Sending.{reply_pieces}
use Rattle.http_edge.proofs.writing.write_parts.Goals as goal

pub returns-clause-sent : goal.returns-clause-sent
returns-clause-sent g c =
    subst (λ (t : List ℕ). HasSent {E = Failed} t (g.S.Device.told c.args.sink.now) (g.S.Device.told c.write_pieces.new.sink) c.write_pieces.result)
    (reply_pieces c.args.status.now c.args.kind.now c.args.extra.0.now c.args.extra.1.now c.args.extra.2.now c.args.close.now c.args.size.0.now
    c.args.size.1.now c.args.size.2.now c.args.body.now)
    c.write_pieces.ensures.sent
