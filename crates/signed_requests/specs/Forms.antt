-- What a request to a resource server may name (RFC 9110, section 9.1; RFC 9112, section 3.2.1).
use Rattle.std.specs.Prelude.{ℕ, ◌==◌, ◌&&◌, nat_le, nat_lt, Bool, false, List, [], ◌∷◌, length}
use Rattle.std.specs.List.{list_all}

-- an upper-case letter
abbrev pub is_capital : ℕ → Bool
is_capital b = nat_le 65 b && nat_le b 90

-- 1 to 15 of them
abbrev pub is_method : List ℕ → Bool
is_method s = nat_lt 0 (length s) && nat_le (length s) 15 && list_all is_capital s

-- a visible character of ASCII
abbrev pub is_visible : ℕ → Bool
is_visible b = nat_le 33 b && nat_le b 126

abbrev pub begins_with_slash : List ℕ → Bool
begins_with_slash [] = false
begins_with_slash (b ∷ s) = b == 47

-- `/` first, and at most 2,048 visible characters
abbrev pub is_target : List ℕ → Bool
is_target s = begins_with_slash s && nat_le (length s) 2048 && list_all is_visible s
