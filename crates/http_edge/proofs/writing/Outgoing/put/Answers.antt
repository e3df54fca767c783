use Rattle.std.proofs.lemmas.Result.{err_from_is_err_and}
use Rattle.http_edge.proofs.Sending.{began_more}
use Rattle.http_edge.proofs.writing.Outgoing.put.Goals as goal

pub returns-in_err-flush-clause-put : goal.returns-in_err-flush-clause-put
returns-in_err-flush-clause-put g c =
    let failed = err_from_is_err_and c.from_residual.result c.from_residual.ensures.1 in
    rw failed.1 (began_more c.args.self.now c.args.piece.now _ _ c.in_err-flush.ensures.sent)
