use Rattle.signature_laws.proofs.SignedAgain.{always_signed_again}
use Rattle.signature_laws.proofs.BothPass.{signed_is_signed, both_pass}
use Rattle.signature_laws.proofs.rotation.signed_rotation_laws.Goals as goal

pub returns-clause-signed : goal.returns-clause-signed
returns-clause-signed c = λ m n base id secret created nonce is unsigned created_size id_text nonce_text. signed_is_signed m n base id secret created nonce is
    unsigned created_size id_text nonce_text

pub returns-clause-always : goal.returns-clause-always
returns-clause-always c = λ m base id secret created signed. always_signed_again m base id secret created signed

pub returns-clause-passes : goal.returns-clause-passes
returns-clause-passes c = λ m n r base ring old old_secret created nonce new new_secret moment now is can again can_again.
    both_pass m n r base ring old old_secret created nonce new new_secret moment now is can again can_again
