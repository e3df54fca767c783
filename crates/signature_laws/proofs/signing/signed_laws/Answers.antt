use Rattle.message_signature.proofs.SignedBase.{always_signed}
use Rattle.signature_laws.proofs.Passes.{signed_passes, signed_is_marked}
use Rattle.signature_laws.proofs.signing.signed_laws.Goals as goal

pub returns-clause-always : goal.returns-clause-always
returns-clause-always c = λ m base params secret. always_signed m base params secret

pub returns-clause-passes : goal.returns-clause-passes
returns-clause-passes c = λ m n base ring id secret created nonce tag now is can. signed_passes m n base ring id secret created nonce tag now is can

pub returns-clause-marked : goal.returns-clause-marked
returns-clause-marked c = λ m n base id secret created nonce tag is none i fits t size. signed_is_marked m n base id secret created nonce tag is none i fits t
    size
