use Rattle.std.proofs.Common.{ℕ, List, ◌++◌, ap, ◌∙◌, subst, codes, length}
use Rattle.std.specs.Prelude.{decimal}
use Rattle.std.proofs.lemmas.Result.{err_from_is_err_and}
use Rattle.outside.specs.Outside.{Writes}
use Rattle.http_edge.specs.Replies.{length_line}
use Rattle.http_edge.proofs.Sending.{Began, reply_parts}
use Rattle.http_edge.proofs.writing.write_reply.Goals as goal

pub returns-in_err-write_parts-clause-sent : goal.returns-in_err-write_parts-clause-sent
returns-in_err-write_parts-clause-sent g c =
    let failed = err_from_is_err_and c.from_residual.result c.from_residual.ensures.1 in
    let r = c.args.reply.now in
    let body = c.body_bytes-body.ensures in
    let digits = c.as_bytes-digits.ensures.value ∙ c.format.ensures.text ∙ ap (λ (t : List ℕ). decimal (length t)) body in
    let size = c.length_and_end.ensures ∙ ap (λ (t : List ℕ). length_line r.status t ++ codes "\r\n") digits in
    rw failed.1 (subst (λ (t : List ℕ). Began t (g.S.Device.told c.args.sink.now) (g.S.Device.told c.write_parts.new.sink))
    (reply_parts r _ _ _ _ _ _ c.status_line.ensures c.type_and_cache.ensures c.extra_parts.ensures c.close_line.ensures size body)
    c.in_err-write_parts.ensures.sent)

pub returns-clause-sent : goal.returns-clause-sent
returns-clause-sent g c =
    let r = c.args.reply.now in
    let body = c.body_bytes-body.ensures in
    let digits = c.as_bytes-digits.ensures.value ∙ c.format.ensures.text ∙ ap (λ (t : List ℕ). decimal (length t)) body in
    let size = c.length_and_end.ensures ∙ ap (λ (t : List ℕ). length_line r.status t ++ codes "\r\n") digits in
    subst (λ (t : List ℕ). Writes t (g.S.Device.told c.args.sink.now) (g.S.Device.told c.write_parts.new.sink))
    (reply_parts r _ _ _ _ _ _ c.status_line.ensures c.type_and_cache.ensures c.extra_parts.ensures c.close_line.ensures size body)
    c.in_ok-write_parts.ensures.sent
