-- Texts by their last byte.
use Rattle.std.proofs.Common.{◌≡◌, ℕ, List, [], ◌∷◌, ◌++◌, refl}
use Rattle.std.specs.Prelude.{codes}
use Rattle.base64.specs.GeneralPurpose.{encode_of}
use Rattle.base64.specs.Engines.{standard}
use Rattle.sha2.specs.Sha256.{sha256}
use Rattle.structured_fields.specs.declared.bare.Bare.TheVariants.{Binary}
use Rattle.structured_fields.specs.Canonical.{bare_text}
use Rattle.content_digest.specs.Digest.{digest_text}

pub record EndsIn (last : ℕ) (text : List ℕ) : Type 0 where
  pub front : List ℕ
  pub is : text ≡ front ++ last ∷ []

pub binary_ends : (b : List ℕ) → EndsIn 58 (bare_text (Binary b))
binary_ends b = record { front = 58 ∷ encode_of standard b; is = refl }

pub digest_ends : (body : List ℕ) → EndsIn 58 (digest_text body)
digest_ends body = record { front = codes "sha-256=:" ++ encode_of standard (sha256 body); is = refl }
