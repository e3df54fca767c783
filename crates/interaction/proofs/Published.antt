-- The hash's definition gives the published example (RFC 9635, section 4.2.3).
use Rattle.std.specs.Prelude.{◌≡◌, codes, false}
use Rattle.std.proofs.Common.{refl}
use Rattle.base64.specs.Rfc4648.{encode_symbols}
use Rattle.sha2.specs.Sha256.{sha256, digest_bytes, hash_after, compress, rounds, schedule, first_words}
use Rattle.interaction.specs.Hashes.{interaction_hash}

published_hash : interaction_hash false (codes "VJLO6A4CATR0KRO") (codes "MBDOFXG4Y5CVJCX821LH") (codes "4IFWWIKYB2PQ6U56NL1")
    (codes "https://server.example.com/tx") ≡ codes "x-gguKWTj8rQf7d7i3w3UhzvuJ5bpOlKyAlVpLxBffY"
unfolding interaction_hash encode_symbols sha256 digest_bytes hash_after compress rounds schedule first_words
published_hash = refl
