use Rattle.std.specs.Prelude.{[]}
use Rattle.std.proofs.lemmas.Result.{err_from_is_err_and}
use Rattle.message_signature.proofs.LoneSteps.{input_fails, signature_fails, untagged, malformed_once, once_lone, once_refused}
use Rattle.message_signature.proofs.lone.found_by_members.Goals as goal

pub returns-in_err-found-clause-err : goal.returns-in_err-found-clause-err
returns-in_err-found-clause-err c = let p = err_from_is_err_and c.from_residual.result c.from_residual.ensures.1 in rw (p.1, p.2)
    (input_fails c.args.input.now c.args.signature.now c.args.tag.now c.in_err-found.field-0.0 c.in_err-found.ensures.err)

pub returns-in_err-bytes_under-in-Nowhere-clause-err : goal.returns-in_err-bytes_under-in-Nowhere-clause-err
returns-in_err-bytes_under-in-Nowhere-clause-err c =
    let read = c.in_ok-found.ensures.ok in
    let p = err_from_is_err_and c.from_residual-in_err-bytes_under-in-Nowhere.result c.from_residual-in_err-bytes_under-in-Nowhere.ensures.1 in rw (p.1, p.2)
    (signature_fails c.args.input.now c.args.signature.now c.args.tag.now read.0 read.1 [] c.in_err-bytes_under-in-Nowhere.field-0.0
    c.in_err-bytes_under-in-Nowhere.ensures)

pub returns-in_ok-bytes_under-in-Nowhere-clause-err : goal.returns-in_ok-bytes_under-in-Nowhere-clause-err
returns-in_ok-bytes_under-in-Nowhere-clause-err c =
    let read = rw c.in-Nowhere.is at c.in_ok-found.ensures.ok in
    untagged c.args.input.now c.args.signature.now c.args.tag.now read.0 read.1 [] c.in_ok-bytes_under-in-Nowhere.field-0 c.in_ok-bytes_under-in-Nowhere.ensures
    read.2

pub returns-in_ok-bytes_under-in-None-clause-err : goal.returns-in_ok-bytes_under-in-None-clause-err
returns-in_ok-bytes_under-in-None-clause-err c =
    let read = rw c.in-Once.is at c.in_ok-found.ensures.ok in
    malformed_once c.args.input.now c.args.signature.now c.args.tag.now read.0 read.1 c.in-Once.field-0.key.now read.2.0 c.in_ok-bytes_under-in-None.field-0
    c.in_ok-bytes_under-in-None.ensures read.2.1 (rw c.in-None.is at read.2.2)

pub returns-in_err-bytes-in-Some-clause-err : goal.returns-in_err-bytes-in-Some-clause-err
returns-in_err-bytes-in-Some-clause-err c =
    let read = c.in_ok-found.ensures.ok in
    let p = err_from_is_err_and c.from_residual-in_err-bytes-in-Some.result c.from_residual-in_err-bytes-in-Some.ensures.1 in rw (p.1, p.2)
    (signature_fails c.args.input.now c.args.signature.now c.args.tag.now read.0 read.1 c.in-Once.field-0.key.now c.in_err-bytes-in-Some.field-0.0
    c.in_err-bytes-in-Some.ensures)

pub returns-in_err-lone-in-Some-clause-err : goal.returns-in_err-lone-in-Some-clause-err
returns-in_err-lone-in-Some-clause-err c =
    let read = rw c.in-Once.is at c.in_ok-found.ensures.ok in
    let key = c.in-Once.field-0.key.now in
    let p = err_from_is_err_and c.from_residual-in_err-lone-in-Some.result c.from_residual-in_err-lone-in-Some.ensures.1 in rw (p.1, p.2)
    (once_refused c.args.input.now c.args.signature.now c.args.tag.now read.0 read.1 key read.2.0 c.in-Some.list c.in_ok-bytes-in-Some.bytes
    c.in_ok-bytes-in-Some.ensures read.2.1 (rw c.in-Some.is at read.2.2) c.in_err-lone-in-Some.field-0.0
    (c.in_err-lone-in-Some.ensures key))

pub returns-in_ok-lone-in-Some-clause-ok : goal.returns-in_ok-lone-in-Some-clause-ok
returns-in_ok-lone-in-Some-clause-ok c =
    let read = rw c.in-Once.is at c.in_ok-found.ensures.ok in
    let key = c.in-Once.field-0.key.now in
    once_lone c.args.input.now c.args.signature.now c.args.tag.now read.0 read.1 key read.2.0 c.in-Some.list c.in_ok-bytes-in-Some.bytes
    c.in_ok-bytes-in-Some.ensures read.2.1 (rw c.in-Some.is at read.2.2) c.in_ok-lone-in-Some.lone
    (c.in_ok-lone-in-Some.ensures key)
