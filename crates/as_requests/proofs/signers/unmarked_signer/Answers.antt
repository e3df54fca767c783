use Rattle.std.proofs.Common.{◌≡◌, Ok}
use Rattle.std.specs.Prelude.{codes}
use Rattle.message_signature.specs.Verified.{verified}
use Rattle.as_requests.specs.Rings.{secrets_of}
use Rattle.as_requests.proofs.WhoSigned.{signer_text}
use Rattle.as_requests.proofs.signers.unmarked_signer.Goals as goal

pub returns-in-Ok-clause-fits : goal.returns-in-Ok-clause-fits
returns-in-Ok-clause-fits c =
    let signed : verified c.args.message.now c.args.edge.now.base (secrets_of c.args.edge.now) c.args.moment (codes "gnap") ≡ Ok c.in-Ok.key =
    rw (c.setup.ensures.value, c.ring.ensures, c.tag.ensures) at c.in-Ok.ensures in
    (signer_text c.args.edge.now c.args.message.now c.args.moment c.in-Ok.key c.setup.ensures.setup signed, tt)
