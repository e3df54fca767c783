-- HMAC over SHA-256 (RFC 2104, section 2): H(K XOR opad, H(K XOR ipad, text)).
use Rattle.std.specs.Prelude.{ℕ, ◌-◌, nat_lt, if◌then◌else◌, List, ◌++◌, length, map, replicate, bit_xor}
use Rattle.sha2.specs.Sha256.{sha256}

-- how many bytes a block of SHA-256 has
abbrev pub block_len : ℕ
block_len = 64

-- the byte that the inner pad repeats
abbrev pub ipad : ℕ
ipad = 0x36

-- the byte that the outer pad repeats
abbrev pub opad : ℕ
opad = 0x5c

-- a key longer than a block is hashed first
abbrev pub short_key : List ℕ → List ℕ
short_key key = if nat_lt block_len (length key) then sha256 key else key

-- the key as a block, with zeros behind it
abbrev pub block_key : List ℕ → List ℕ
block_key key = short_key key ++ replicate (block_len - length (short_key key)) 0

-- a block with a pad
abbrev pub xor_each : ℕ → List ℕ → List ℕ
xor_each pad block = map (λ k. bit_xor k pad) block

unfoldable pub hmac_sha256 : List ℕ → List ℕ → List ℕ
hmac_sha256 key message = sha256 (xor_each opad (block_key key) ++ sha256 (xor_each ipad (block_key key) ++ message))
