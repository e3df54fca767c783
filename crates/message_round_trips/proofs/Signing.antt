-- Which fields a message has that was signed.
use Rattle.std.proofs.Common.{◌≡◌, ℕ, List, Some}
use Rattle.hmac_key.specs.Hmac.{hmac_sha256}
use Rattle.bytes_and_lists.specs.declared.message.Message.{Message}
use Rattle.structured_fields.specs.declared.bare.Bare.{Bare}
use Rattle.structured_fields.proofs.Fronts.{some_is, bind_some}
use Rattle.message_signature.specs.Base.{signature_base}
use Rattle.message_signature.specs.Signed.{with_fields, with_digest, signature_input, signature_lines, signed_under}

-- those of the message, with the digest of its body, and the two of the signature over some text
pub record HasSignatureLines (m : Message) (params : List (List ℕ × Bare)) (secret : List ℕ) (n : Message) : Type 0 where
  pub text : List ℕ
  pub is : with_fields (signature_lines (signature_input (with_digest m) params) (hmac_sha256 secret text)) (with_digest m) ≡ n

pub signed_is : (m n : Message) (base : List ℕ) (params : List (List ℕ × Bare)) (secret : List ℕ) → signed_under m base params secret ≡ Some n
    → HasSignatureLines m params secret n
unfolding signed_under
signed_is m n base params secret is =
    let w = with_digest m in
    let made = bind_some (signature_base w base (signature_input w params))
    (λ text. Some (with_fields (signature_lines (signature_input w params) (hmac_sha256 secret text)) w)) n is in
    record { text = made.0; is = some_is _ _ made.2 }
