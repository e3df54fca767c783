-- The digest that signing adds has nothing to be trimmed, and what it writes of a signature can be written.
use Rattle.std.proofs.Common.{◌≡◌, ℕ, ◌<◌, ◌^◌, Bool, true, cond, List, [], ◌∷◌, ◌++◌, Option, Some, None, refl}
use Rattle.std.specs.Prelude.{codes, IfSome}
use Rattle.std.specs.List.{list_all}
use Rattle.structured_fields.specs.declared.bare.Bare.TheVariants.{Binary}
use Rattle.structured_fields.specs.Letters.{is_string_byte}
use Rattle.structured_fields.specs.Named.{IsDistinct}
use Rattle.structured_fields.specs.Reading.{trimmed}
use Rattle.structured_fields.specs.Canonical.{IsInRange, AreInRange}
use Rattle.content_digest.specs.Digest.{digest_text}
use Rattle.content_digest.proofs.DigestBytes.{sha_bytes}
use Rattle.content_digest.proofs.Ends.{digest_ends}
use Rattle.hmac_key.specs.Hmac.{hmac_sha256}
use Rattle.message_signature.specs.Signed.{covered, params_of}
use Rattle.message_signature.proofs.Appended.{trimmed_same}

-- ---- the digest

pub digest_trimmed : (body : List ℕ) → trimmed (digest_text body) ≡ digest_text body
digest_trimmed body = trimmed_same (digest_text body) 58 (digest_ends body) refl refl

-- ---- the signature

pub hmac_range : (key text : List ℕ) → IsInRange (Binary (hmac_sha256 key text))
unfolding hmac_sha256
hmac_range key text = sha_bytes _

-- ---- what the signature covers, and its parameters

-- the covered components: of a body, and of an access token
abbrev pub names : Bool → Bool → List (List ℕ)
names body token = codes "@method" ∷ codes "@target-uri" ∷ (cond body (codes "content-digest" ∷ []) [] ++ cond token (codes "authorization" ∷ []) [])

-- the parameters: their names are distinct, and their values can be written
pub params_distinct : (id : List ℕ) (created : ℕ) (nonce : Option (List ℕ)) (tag : List ℕ) → IsDistinct (params_of id created nonce tag)
params_distinct id created None tag = (refl, (refl, (refl, tt)))
params_distinct id created (Some nonce) tag = (refl, (refl, (refl, (refl, tt))))

pub params_range : (id : List ℕ) (created : ℕ) (nonce : Option (List ℕ)) (tag : List ℕ)
    → created < 10 ^ 15 → list_all is_string_byte id ≡ true → IfSome nonce (λ n. list_all is_string_byte n ≡ true) → list_all is_string_byte tag ≡ true
    → AreInRange (params_of id created nonce tag)
params_range id created None tag c i n t = ((refl, c), ((refl, i), ((refl, t), tt)))
params_range id created (Some nonce) tag c i n t = ((refl, c), ((refl, i), ((refl, n), ((refl, t), tt))))
