-- What was got at a place of a list stands there.
use Rattle.std.proofs.Common.{ℕ, ◌≡◌, ◌∙◌, ◌<◌, List, length, get_or, sym, ap, Some}
use Rattle.std.specs.Prelude.{slice_get}
use Rattle.std.proofs.lemmas.Option.{slice_get-get_or}

pub got : {A : Type 0} (xs : List A) (at : ℕ) (x : A) → x ≡ get_or xs at x → at < length xs → slice_get xs at ≡ Some x
got {A} xs at x is inside = slice_get-get_or xs at x inside ∙ ap (λ (y : A). Some y) (sym is)
