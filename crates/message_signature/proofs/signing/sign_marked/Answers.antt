use Rattle.std.specs.Prelude.{Some}
use Rattle.message_signature.proofs.SignedFields.{params_range}
use Rattle.message_signature.proofs.SigningSteps.{is_nonce_parts, nonce_letters}
use Rattle.message_signature.proofs.signing.sign_marked.Goals as goal

pub sign_under-requires-clause-params : goal.sign_under-requires-clause-params
sign_under-requires-clause-params c =
    let letters = nonce_letters c.args.nonce.now (is_nonce_parts c.args.nonce.now c.requires.nonce).1 in
    rw c.in_ok-params.ensures (params_range c.args.id.now c.args.created (Some c.args.nonce.now) c.args.tag.now c.requires.created c.requires.id letters
    c.requires.tag)
