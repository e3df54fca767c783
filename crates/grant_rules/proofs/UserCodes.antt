-- The first free code, as it is looked for among the numbers below 20 ^ 8 and in either order of the taken codes.
use Rattle.std.proofs.Common.{◌≡◌, ◌∙◌, ℕ, zero, suc, ◌+◌, ◌<◌, true, false, List, length, reverse, refl, sym, ap}
use Rattle.std.specs.Prelude.{◌%◌}
use Rattle.std.specs.List.{list_any}
use Rattle.std.proofs.Math.Nat.{mod-mod, mod-add-mod, mod-eq_of_lt}
use Rattle.std.proofs.lemmas.List.{length-reverse}
use Rattle.gnap_model.specs.Common.{Text, same_text}
use Rattle.gnap_model.specs.Values.{code_text, code_count, free_code}
use Rattle.gnap_model.proofs.LookUps.{any-reverse}

pub free_code-mod : (tries number : ℕ) (taken : List Text) → free_code tries (number % code_count) taken ≡ free_code tries number taken
free_code-mod zero number taken = ap code_text (mod-mod number code_count)
free_code-mod (suc tries) number taken =
    let next : free_code tries (number % code_count + 1) taken ≡ free_code tries (number + 1) taken =
    sym (free_code-mod tries (number % code_count + 1) taken) ∙ ap (λ n. free_code tries n taken) (mod-add-mod number code_count 1)
    ∙ free_code-mod tries (number + 1) taken in
    rw (mod-mod number code_count, next) refl

-- A number whose code is taken is passed over.
pub free_code-taken : (tries number : ℕ) (taken : List Text) → number < code_count → list_any (same_text (code_text number)) taken ≡ true
    → free_code (suc tries) number taken ≡ free_code tries ((number + 1) % code_count) taken
free_code-taken tries number taken within is = rw (mod-eq_of_lt within, is) (sym (free_code-mod tries (number + 1) taken))

pub free_code-free : (tries number : ℕ) (taken : List Text) → number < code_count → list_any (same_text (code_text number)) taken ≡ false
    → free_code (suc tries) number taken ≡ code_text number
free_code-free tries number taken within is = rw (mod-eq_of_lt within, is) refl

free_code-reverse : (tries number : ℕ) (taken : List Text) → free_code tries number (reverse taken) ≡ free_code tries number taken
free_code-reverse zero number taken = refl
free_code-reverse (suc tries) number taken =
    rw (any-reverse (same_text (code_text (number % code_count))) taken, free_code-reverse tries (number + 1) taken) refl

-- It doesn't matter in which order the taken codes stand.
pub free_code-reordered : (number : ℕ) (codes taken : List Text) → codes ≡ reverse taken
    → free_code (length codes) number codes ≡ free_code (length taken) number taken
free_code-reordered number codes taken is = rw (is, length-reverse taken) (free_code-reverse (length taken) number taken)
