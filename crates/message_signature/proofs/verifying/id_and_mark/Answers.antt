use Rattle.std.proofs.Common.{Ok, refl}
use Rattle.std.proofs.lemmas.Result.{err_from_is_err_and}
use Rattle.message_signature.specs.Marks.{mark_in}
use Rattle.message_signature.specs.Verified.{judged}
use Rattle.message_signature.proofs.LoneSteps.{fails_first}
use Rattle.message_signature.proofs.verifying.id_and_mark.Goals as goal

pub returns-in_err-id : goal.returns-in_err-id
returns-in_err-id c label =
    let found = rw c.as_slice.ensures.value at c.in_ok-one.ensures.ok label in
    let list = c.in_ok-one.one.list.now in
    let p = err_from_is_err_and c.from_residual-in_err-id.result c.from_residual-in_err-id.ensures.1 in
    rw (p.1, p.2, found.1)
    (fails_first (judged c.args.message.now c.args.base.now c.args.ring.now c.args.now
    (record { label = found.0; list = list; bytes = c.in_ok-one.one.bytes.now }))
    (λ id. Ok (id, mark_in list)) c.in_err-id.field-0.0 (c.in_err-id.ensures found.0))

pub returns : goal.returns
returns c label =
    let found = rw c.as_slice.ensures.value at c.in_ok-one.ensures.ok label in
    rw (found.1, c.in_ok-id.ensures found.0, c.in_ok-mark_in.ensures) refl
