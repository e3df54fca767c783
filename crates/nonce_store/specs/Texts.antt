-- Nonces and the ids of keys, as the trees keep them.
use Rattle.std.specs.Prelude.{ℕ, Bool, nat_le, length}
use Rattle.std.specs.Int.{from_be_bytes, w64}
use Rattle.gnap_model.specs.Common.{Text}

-- a text of a tree has at most so many bytes
abbrev pub longest : ℕ
longest = 64

abbrev pub is_short : Text → Bool
is_short text = nat_le (length text) longest

-- the first eight bytes as a number, in which the first one weighs most, with zeros behind a shorter text
unfoldable pub head_of : Text → ℕ
head_of text = from_be_bytes w64 text
