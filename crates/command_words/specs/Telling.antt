-- What a person is told, on a sink.
use Rattle.std.specs.Prelude.{◌≡◌, ◌≤◌, ◌⊎◌, ℕ, nat_le, List, ◌++◌, length, map, take, codes, if◌then◌else◌}
use Rattle.std.specs.Char.{is_ascii_control}
use Rattle.bytes_and_lists.specs.Prefixes.{IsPrefix}
use Rattle.outside.specs.Outside.{Told, Writes, Rose}

-- This text was told: nothing was read, what went out is appended, and it is the whole text, or a beginning of it, and then the count of faults rose.
pub record HasTold (text : List ℕ) (before after : Told) (faults later : ℕ) : Type 0 where
  pub sent : List ℕ
  pub begins : IsPrefix sent text
  pub writes : Writes sent before after
  pub whole : (sent ≡ text) ⊎ Rose faults later
  pub grows : faults ≤ later

-- a byte as it is shown: `?` where a terminal may act on it
abbrev pub shown_byte : ℕ → ℕ
shown_byte byte = if is_ascii_control byte then 63 else byte

-- a text that somebody else wrote, as it is shown: its first 64 bytes, and `..` where there are more
abbrev pub shown_text : List ℕ → List ℕ
shown_text text = if nat_le (length text) 64 then map shown_byte text else map shown_byte (take 64 text) ++ codes ".."
