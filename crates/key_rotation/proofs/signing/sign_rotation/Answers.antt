use Rattle.message_signature.proofs.SigningSteps.{signature_range}
use Rattle.key_rotation.proofs.SecondBase.{based, input_range, signed_with}
use Rattle.key_rotation.proofs.signing.sign_rotation.Goals as goal

pub signature_of-requires-clause-based : goal.signature_of-requires-clause-based
signature_of-requires-clause-based c = rw c.in_ok-list.ensures
    (based c.args.message.now c.args.base.now c.args.id.now c.args.created c.in_ok-fields.ensures.signed)

pub signature_lines-requires-clause-list : goal.signature_lines-requires-clause-list
signature_lines-requires-clause-list c = rw c.in_ok-list.ensures (input_range c.args.message.now c.args.id.now c.args.created c.requires.created c.requires.id)

pub signature_lines-requires-clause-bytes : goal.signature_lines-requires-clause-bytes
signature_lines-requires-clause-bytes c = signature_range c.args.secret.now _ c.in_ok-bytes.bytes c.in_ok-bytes.ensures

pub returns-clause-ok : goal.returns-clause-ok
returns-clause-ok c =
    signed_with c.args.message.now c.args.base.now c.args.id.now c.args.secret.now c.in_ok-bytes.bytes c.args.created c.in_ok-list.list _ c.in_ok-lines.lines
    c.in_ok-list.ensures c.in_ok-bytes.ensures c.in_ok-lines.ensures c.in_ok-append.ensures.ok
