use Rattle.std.proofs.lemmas.Result.{err_from_is_err_and}
use Rattle.message_signature.proofs.ListShapes.{no_bytes_of_shaped, shaped_refused, shaped_lone}
use Rattle.message_signature.proofs.lone.shaped_signature.Goals as goal

pub returns-in_err-bytes-clause-err : goal.returns-in_err-bytes-clause-err
returns-in_err-bytes-clause-err c =
    let one = c.args.one in
    let p = err_from_is_err_and c.from_residual.result c.from_residual.ensures.1 in
    rw (p.1, p.2)
    (no_bytes_of_shaped one.text c.args.signature.now c.args.tag.now one.shape.value.label one.list one.reads one.is_shape.2 one.is_shape.3 c.requires
    c.in_err-bytes.field-0.0 (rw c.label.ensures at c.in_err-bytes.ensures))

pub returns-in_err-lone-clause-err : goal.returns-in_err-lone-clause-err
returns-in_err-lone-clause-err c =
    let one = c.args.one in
    let p = err_from_is_err_and c.from_residual-in_err-lone.result c.from_residual-in_err-lone.ensures.1 in
    rw (p.1, p.2)
    (shaped_refused one.text c.args.signature.now c.args.tag.now one.shape.value.label one.list one.reads one.is_shape.2 one.is_shape.3 c.requires
    c.in_ok-bytes.bytes (rw c.label.ensures at c.in_ok-bytes.ensures) c.in_err-lone.field-0.0 (c.in_err-lone.ensures one.shape.value.label))

pub returns-clause-ok : goal.returns-clause-ok
returns-clause-ok c =
    let one = c.args.one in
    shaped_lone one.text c.args.signature.now c.args.tag.now one.shape.value.label one.list one.reads one.is_shape.2 one.is_shape.3 c.requires
    c.in_ok-bytes.bytes (rw c.label.ensures at c.in_ok-bytes.ensures) c.in_ok-lone.lone (c.in_ok-lone.ensures one.shape.value.label)
