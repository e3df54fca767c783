use Rattle.std.proofs.Common.{◌≡◌, Option, Ok, IfSome, sym, subst}
use Rattle.std.specs.Prelude.{codes}
use Rattle.message_signature.specs.Marked.{verified_marked}
use Rattle.as_requests.specs.declared.signers.Signer.{Signer}
use Rattle.as_requests.specs.Rings.{secrets_of}
use Rattle.as_requests.specs.Signers.{SignerFits}
use Rattle.as_requests.proofs.WhoSigned.{marked_fits}
use Rattle.as_requests.proofs.signers.marked_signer.Goals as goal

pub returns-in-Ok-clause-fits : goal.returns-in-Ok-clause-fits
returns-in-Ok-clause-fits c =
    let signed : verified_marked c.args.message.now c.args.edge.now.base (secrets_of c.args.edge.now) c.args.moment (codes "gnap")
    ≡ Ok (c.in-Ok.key, c.in-Ok.mark) =
    rw (c.setup.ensures.value, c.ring.ensures, c.tag.ensures) at c.in-Ok.ensures in
    subst (λ (found : Option Signer). IfSome found SignerFits) (sym c.signer_with_mark.ensures)
    (marked_fits c.args.edge.now c.args.message.now c.args.moment c.in-Ok.key c.in-Ok.mark c.setup.ensures.setup signed)
