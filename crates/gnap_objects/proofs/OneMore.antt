-- One part more was read, and stands behind those before.
use Rattle.std.proofs.Common.{◌≡◌, ◌∙◌, ◌||◌, Bool, List, [], ◌∷◌, ◌++◌, sym, ap}
use Rattle.std.proofs.Math.Bool.{or_comm, or-false}
use Rattle.std.proofs.lemmas.List.Folds.{list_any-append}
use Rattle.std.specs.List.{list_any}

pub any_more : {A : Type 0} (test : A → Bool) (before : List A) (x : A) → (test x || list_any test before) ≡ list_any test (before ++ x ∷ [])
any_more test before x = or_comm (test x) (list_any test before)
    ∙ ap (λ b. list_any test before || b) (sym (or-false (test x))) ∙ sym (list_any-append test before (x ∷ []))
