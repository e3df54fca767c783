-- Look-ups in lists, and tests of their elements.
use Rattle.std.proofs.Common.{◌≡◌, ◌⊎◌, Bool, true, false, List, [], ◌∷◌, ◌++◌, reverse, refl, ◌∙◌, ap, inl, inr, Option, Some, None}
use Rattle.std.specs.Option.{option_or}
use Rattle.std.specs.Prelude.{◌||◌}
use Rattle.std.proofs.Math.Bool.{or-false, or_comm}
use Rattle.std.specs.List.{list_any}
use Rattle.std.proofs.lemmas.List.{reverse-append}
use Rattle.std.proofs.lemmas.List.Folds.{list_any-append}
use Rattle.gnap_model.specs.Common.{first_of, some_if}

pub some_if_some : {A : Type 0} (b : Bool) (x y : A) → some_if b x ≡ Some y → (b ≡ true) × (x ≡ y)
some_if_some true x y e = (refl, cc e)
some_if_some false x y e = cc e

pub option_or_cases : {B : Type 0} (a b : Option B) (y : B) → option_or a b ≡ Some y → (a ≡ Some y) ⊎ ((a ≡ None) × (b ≡ Some y))
option_or_cases None b y e = inr (refl, e)
option_or_cases (Some x) b y e = inl e

pub first_of-append : {A B : Type 0} (look : A → Option B) (xs ys : List A) → first_of look (xs ++ ys) ≡ option_or (first_of look xs) (first_of look ys)
first_of-append look [] ys = refl
first_of-append {A} {B} look (x ∷ xs) ys = step (look x) (first_of look xs) (first_of look ys) (first_of look (xs ++ ys)) (first_of-append look xs ys)
  where
    step : (a b c d : Option B) → d ≡ option_or b c → option_or a d ≡ option_or (option_or a b) c
    step None b c d e = e
    step (Some y) b c d e = refl

pub any-reverse : {A : Type 0} (test : A → Bool) (xs : List A) → list_any test (reverse xs) ≡ list_any test xs
any-reverse test [] = refl
any-reverse test (x ∷ xs) =
    ap (list_any test) (reverse-append (x ∷ []) xs) ∙ list_any-append test (reverse xs) (x ∷ []) ∙ ap (λ b. b || (test x || false)) (any-reverse test xs)
    ∙ ap (λ b. list_any test xs || b) (or-false (test x)) ∙ or_comm (list_any test xs) (test x)
