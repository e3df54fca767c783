-- The Content-Digest field (RFC 9530, section 2): a dictionary of digests of a body, each a byte sequence under the name of its algorithm.
use Rattle.std.specs.Prelude.{ℕ, Bool, not, if◌then◌else◌, ◌||◌, List, ◌++◌, Option, Some, None, is_some, codes}
use Rattle.std.specs.Str.{bytes_eq}
use Rattle.std.specs.List.{list_all, list_any}
use Rattle.base64.specs.GeneralPurpose.{encode_of}
use Rattle.base64.specs.Engines.{standard}
use Rattle.sha2.specs.Sha256.{sha256}
use Rattle.sha2.specs.Sha512.{sha512}
use Rattle.structured_fields.specs.declared.bare.Bare.{Bare}
use Rattle.structured_fields.specs.declared.bare.Bare.TheVariants.{Integer, Decimal, Str, Token, Binary, Boolean, Date, Display}
use Rattle.structured_fields.specs.declared.item.Member.{Member}
use Rattle.structured_fields.specs.declared.item.Member.TheVariants.{Item as Single, Inner}

-- the field of a SHA-256 digest
abbrev pub text_of_digest : List ℕ → List ℕ
text_of_digest digest = codes "sha-256=:" ++ encode_of standard digest ++ codes ":"

-- the field of a body, with its SHA-256 digest
abbrev pub digest_text : List ℕ → List ℕ
digest_text body = text_of_digest (sha256 body)

-- the algorithms that are known, of those that RFC 9530, section 5, names
abbrev pub is_known : List ℕ → Bool
is_known name = bytes_eq name (codes "sha-256") || bytes_eq name (codes "sha-512")

-- the digest of a body by a known algorithm
abbrev pub digest_by : List ℕ → List ℕ → Option (List ℕ)
digest_by name body =
    if bytes_eq name (codes "sha-256") then Some (sha256 body)
    else if bytes_eq name (codes "sha-512") then Some (sha512 body)
    else None

abbrev pub binary_of : Bare → Option (List ℕ)
binary_of (Integer n) = None
binary_of (Decimal n) = None
binary_of (Str s) = None
binary_of (Token s) = None
binary_of (Binary b) = Some b
binary_of (Boolean b) = None
binary_of (Date n) = None
binary_of (Display s) = None

-- the bytes of a member that is a byte sequence, whatever its parameters
abbrev pub sequence_of : Member → Option (List ℕ)
sequence_of (Single i) = binary_of i.bare
sequence_of (Inner l) = None

-- an entry under a known name is a byte sequence
abbrev pub has_right_kind : List ℕ × Member → Bool
has_right_kind e = not (is_known e.0) || is_some (sequence_of e.1)

abbrev pub are_sequences : List (List ℕ × Member) → Bool
are_sequences d = list_all has_right_kind d

-- a member under a known name is there
abbrev pub has_known : List (List ℕ × Member) → Bool
has_known d = list_any (λ e. is_known e.0) d
