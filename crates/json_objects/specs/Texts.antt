-- Texts of UTF-8, which JSON can show.
use Rattle.std.specs.Prelude.{ℕ, List, Option, Some, None}
use Rattle.std.specs.List.{AllByRecursion}
use Rattle.std.specs.Str.{IsUtf8}

abbrev pub IsUtf8Or : Option (List ℕ) → Type 0
IsUtf8Or None = Unit {0}
IsUtf8Or (Some s) = IsUtf8 s

abbrev pub AreUtf8 : Option (List (List ℕ)) → Type 0
AreUtf8 None = Unit {0}
AreUtf8 (Some ss) = AllByRecursion IsUtf8 ss
