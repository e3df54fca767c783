-- What is drawn, draw by draw.
use Rattle.std.proofs.Common.{◌≡◌, ◌∙◌, ℕ, suc, ◌+◌, ◌*◌, List, [], ◌∷◌, ◌++◌, ap, subst, arith}
use Rattle.rand_chacha.specs.ChaCha.{ChaCha}
use Rattle.grant_machine.specs.Gnap.{GnapEntry}
use Rattle.random_words.specs.Draws.{after_words}
use Rattle.random_words.proofs.Places.{at_place, after-words_at}
use Rattle.desk_load.specs.Words.{Drawn, HaveDraws, generator_at}

-- so a draw leads to the next one
pub after_draw : (start worker n : ℕ) → after_words 48 (generator_at start worker n) ≡ generator_at start worker (suc n)
after_draw start worker n =
    after-words_at 48 _ worker (96 * n) ∙ ap (at_place _ worker) (let same : 96 * n + 2 * 48 ≡ 96 * suc n = omega arith in same)

-- ---- draw by draw

pub drawn-append : (es fs : List GnapEntry) (g h k : ChaCha) → Drawn g es h → Drawn h fs k → Drawn g (es ++ fs) k
drawn-append [] fs g h k first second = subst (λ (x : ChaCha). Drawn x fs k) first second
drawn-append (e ∷ es) fs g h k first second = (first.0, drawn-append es fs (after_words 48 g) h k first.1 second)

-- what was drawn from the generator of a worker on has the draws of that worker
pub have_draws : (start worker n : ℕ) (es : List GnapEntry) (after : ChaCha) → Drawn (generator_at start worker n) es after → HaveDraws start worker n es
have_draws start worker n [] after drawn = tt
have_draws start worker n (e ∷ es) after drawn =
    (drawn.0, have_draws start worker (suc n) es after (subst (λ (x : ChaCha). Drawn x es after) (after_draw start worker n) drawn.1))
