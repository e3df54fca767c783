-- Rights that are all served.
use Rattle.std.proofs.Common.{◌≡◌, Bool, true, List, [], ◌∷◌, refl, ap}
use Rattle.std.specs.List.{list_all, filter}
use Rattle.std.proofs.lemmas.Bool.{and_parts}

pub all_pass : {A : Type 0} (test : A → Bool) (xs : List A) → list_all test xs ≡ true → filter test xs ≡ xs
all_pass test [] all = refl
all_pass test (x ∷ xs) all =
    let both = and_parts (test x) (list_all test xs) all in
    rw (both.0) (ap (λ rest. x ∷ rest) (all_pass test xs both.1))
