-- How large a message may be, in bytes, and how many fields it may have.
use Rattle.std.specs.Prelude.{ℕ}

-- a head
abbrev pub head_limit : ℕ
head_limit = 16384

abbrev pub field_limit : ℕ
field_limit = 64

-- a body
abbrev pub body_limit : ℕ
body_limit = 65536

-- a head and a body of the largest size
abbrev pub message_limit : ℕ
message_limit = 81920

-- so many fields have room in a head, each of three bytes at least
abbrev pub all_fields : ℕ
all_fields = 5462
