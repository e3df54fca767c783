use Rattle.std.proofs.Common.{◌≡◌, ◌∙◌, ℕ, List, length, take, drop, Bool, true, false, Some, None, min, sym, ap}
use Rattle.std.specs.Prelude.{if◌then◌else◌}
use Rattle.std.specs.Str.{str_eq_ignore_ascii_case}
use Rattle.std.proofs.lemmas.Bool.Decides.{same_from_decides}
use Rattle.std.proofs.lemmas.List.{take_min, drop_min}
use Rattle.std.proofs.lemmas.Slice.Eq.{bytes_eq-Decides}
use Rattle.resource_server.specs.Routing.{behind_word}
use Rattle.resource_server.proofs.routing.behind_word.Goals as goal

-- a text that is cut where the word ends, or at its own end
cut : (word text front rest : List ℕ) (n : ℕ) (same : Bool) → n ≡ min (length word) (length text) → front ≡ take n text → rest ≡ drop n text
    → same ≡ str_eq_ignore_ascii_case front word → (if same then Some rest else None) ≡ behind_word (length word) word text
cut word text front rest n same at begins ends is =
    let first : front ≡ take (length word) text = begins ∙ ap (λ m. take m text) at ∙ take_min (length word) text in
    let last : rest ≡ drop (length word) text = ends ∙ ap (λ m. drop m text) at ∙ drop_min (length word) text in
    ap (λ b. if b then Some rest else None) (is ∙ ap (λ s. str_eq_ignore_ascii_case s word) first)
    ∙ ap (λ s. if str_eq_ignore_ascii_case (take (length word) text) word then Some s else None) last

pub returns-then-eq_ignore_ascii_case : goal.returns-then-eq_ignore_ascii_case
returns-then-eq_ignore_ascii_case c = cut c.args.word.now c.args.text.now _ _ c.min.result true c.min.ensures c.split_at.ensures.front c.split_at.ensures.back
    (sym c.if-eq_ignore_ascii_case.true ∙ same_from_decides _ _ c.eq_ignore_ascii_case.ensures.test (bytes_eq-Decides _ _))

pub returns-else-eq_ignore_ascii_case : goal.returns-else-eq_ignore_ascii_case
returns-else-eq_ignore_ascii_case c = cut c.args.word.now c.args.text.now _ _ c.min.result false c.min.ensures c.split_at.ensures.front
    c.split_at.ensures.back
    (sym c.if-eq_ignore_ascii_case.false ∙ same_from_decides _ _ c.eq_ignore_ascii_case.ensures.test (bytes_eq-Decides _ _))
