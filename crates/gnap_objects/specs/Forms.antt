-- The forms of ids and of the addresses of servers.
use Rattle.std.specs.Prelude.{ℕ, ◌+◌, ◌==◌, ◌&&◌, ◌||◌, List, length, take, drop, position, Bool, false, not, Option, Some, None, nat_lt, nat_le, nat_eq, if◌then◌else◌, codes}
use Rattle.std.specs.List.{list_all, starts_with}
use Rattle.std.specs.Str.{bytes_eq}

-- a letter, a digit, `.`, `_` or `-`
abbrev pub is_id_byte : ℕ → Bool
is_id_byte b = (nat_le 97 b && nat_le b 122) || (nat_le 65 b && nat_le b 90) || (nat_le 48 b && nat_le b 57) || b == 46 || b == 95 || b == 45

-- a text of at least one byte and at most so many
abbrev pub is_sized : ℕ → List ℕ → Bool
is_sized most s = nat_lt 0 (length s) && nat_le (length s) most

-- an id has 1 to 64 of them
unfoldable pub is_id : List ℕ → Bool
is_id s = is_sized 64 s && list_all is_id_byte s

-- a lower-case letter, a digit, `.` or `-`
abbrev pub is_host_byte : ℕ → Bool
is_host_byte b = (nat_le 97 b && nat_le b 122) || (nat_le 48 b && nat_le b 57) || b == 46 || b == 45

abbrev pub is_host : List ℕ → Bool
is_host s = is_sized 253 s && list_all is_host_byte s

abbrev pub is_digit : ℕ → Bool
is_digit b = nat_le 48 b && nat_le b 57

-- 1 to 5 digits, other than those of the default port
abbrev pub is_port : List ℕ → List ℕ → Bool
is_port default s = is_sized 5 s && list_all is_digit s && not (bytes_eq s default)

abbrev pub authority_at : List ℕ → List ℕ → Option ℕ → Bool
authority_at default s None = is_host s
authority_at default s (Some i) = is_host (take i s) && is_port default (drop (i + 1) s)

-- a host, or a host, `:` and a port
unfoldable pub is_authority : List ℕ → List ℕ → Bool
is_authority default s = authority_at default s (position (λ b. b == 58) s)

-- what stands after the prefix
abbrev pub after : List ℕ → List ℕ → Option (List ℕ)
after prefix s = if starts_with nat_eq s prefix then Some (drop (length prefix) s) else None

abbrev pub secure_base : Option (List ℕ) → Bool
secure_base None = false
secure_base (Some rest) = is_authority (codes "443") rest

abbrev pub plain_base : List ℕ → Option (List ℕ) → Bool
plain_base s None = secure_base (after (codes "https://") s)
plain_base s (Some rest) = is_authority (codes "80") rest

-- `http://` or `https://`, and where the server is
unfoldable pub is_base : List ℕ → Bool
is_base s = plain_base s (after (codes "http://") s)
