-- What stands at the front of a list that grows.
use Rattle.std.proofs.Common.{◌≡◌, ◌∙◌, ◌≤◌, List, [], ◌∷◌, ◌++◌, length, take, ap}
use Rattle.std.proofs.lemmas.List.{take-append-le}
use Rattle.std.proofs.Math.Seq.{take-length}

pub all_kept : {A : Type 0} (xs : List A) → take (length xs) xs ≡ xs
all_kept xs = take-length xs

pub kept_behind : {A : Type 0} (old xs new : List A) (x : A) → take (length old) xs ≡ old → length old ≤ length xs → new ≡ xs ++ x ∷ []
    → take (length old) new ≡ old
kept_behind old xs new x kept longer is = ap (take (length old)) is ∙ take-append-le (length old) xs (x ∷ []) longer ∙ kept
