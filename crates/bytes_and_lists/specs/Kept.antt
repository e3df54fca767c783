-- The bytes of a list, wherever they lie.
use Rattle.std.specs.Prelude.{ℕ, List}
use Rattle.bytes_and_lists.specs.declared.bytes.Kept.{Kept}
use Rattle.bytes_and_lists.specs.declared.bytes.Kept.TheVariants.{Inline, Heap}

abbrev pub kept_bytes : Kept → List ℕ
kept_bytes (Inline few) = few
kept_bytes (Heap many) = many.items
