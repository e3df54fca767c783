-- User codes, as people type them (RFC 9635, section 3.3.3).
use Rattle.std.specs.Prelude.{ℕ, ◌==◌, ◌&&◌, ◌||◌, List, length, map, filter, Bool, not, Result, nat_eq, codes}
use Rattle.std.specs.Char.{to_ascii_uppercase}
use Rattle.std.specs.List.{list_all, list_any}
use Rattle.serde_json.specs.Data.{Data}
use Rattle.json_objects.specs.Reading.{◌>>=◌}
use Rattle.gnap_objects.specs.declared.fault.ObjectFault.{ObjectFault}
use Rattle.gnap_objects.specs.Reading.{required_text, checked}

-- a letter of user codes
abbrev pub is_code_letter : ℕ → Bool
is_code_letter b = list_any (nat_eq b) (codes "BCDFGHJKLMNPQRSTVWXZ")

-- eight of them
abbrev pub is_user_code : List ℕ → Bool
is_user_code s = length s == 8 && list_all is_code_letter s

-- a hyphen or a space, which people type to set letters apart
abbrev pub is_gap : ℕ → Bool
is_gap b = b == 45 || b == 32

-- what was typed, in upper case and without gaps
abbrev pub letters_of : List ℕ → List ℕ
letters_of typed = map to_ascii_uppercase (filter (λ b. not (is_gap b)) typed)

-- `code`: a user code as a person may type it
unfoldable pub user_code_of : Data → Result (List ℕ) ObjectFault
user_code_of d = required_text (codes "code") d >>= λ typed. checked is_user_code (codes "code") (letters_of typed)
