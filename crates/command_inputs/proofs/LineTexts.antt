-- The lines of a text that begins with ended lines.
use Rattle.std.proofs.Common.{◌≡◌, ◌∙◌, ℕ, List, [], ◌∷◌, ◌++◌, refl, ap, sym, subst, append_assoc}
use Rattle.std.specs.Prelude.{Bool, true, false, ◌==◌, if◌then◌else◌}
use Rattle.std.proofs.lemmas.Bool.{or_parts}
use Rattle.command_inputs.specs.Lines.{IsLine, lines_of, onto_first, all_but_last, whole_lines}
use Rattle.command_inputs.specs.LineRuns.{ended_lines, AreLines}

-- an LF ends a line
pub line_ended : (line rest : List ℕ) → IsLine line → lines_of (line ++ 10 ∷ rest) ≡ line ∷ lines_of rest
line_ended [] rest is = refl
line_ended (b ∷ line) rest is =
    let h = or_parts (b == 10) _ is in
    rw h.0 (ap (onto_first b) (line_ended line rest h.1))

-- the end of the text ends a line
pub line_last : (line : List ℕ) → IsLine line → lines_of line ≡ line ∷ []
line_last [] is = refl
line_last (b ∷ line) is =
    let h = or_parts (b == 10) _ is in
    rw h.0 (ap (onto_first b) (line_last line h.1))

pub lines_ended : (lines : List (List ℕ)) (rest : List ℕ) → AreLines lines → lines_of (ended_lines lines ++ rest) ≡ lines ++ lines_of rest
lines_ended [] rest are = refl
lines_ended (line ∷ lines) rest are =
    ap lines_of (append_assoc line (10 ∷ ended_lines lines) rest)
    ∙ line_ended line (ended_lines lines ++ rest) are.0
    ∙ ap (λ ls. line ∷ ls) (lines_ended lines rest are.1)

-- ---- the lines that an LF ends

-- a text has a line
some_line : (ends : Bool) (b : ℕ) (lines : List (List ℕ))
    → (first : List ℕ) × (more : List (List ℕ)) × ((if ends then [] ∷ lines else onto_first b lines) ≡ first ∷ more)
some_line true b lines = ([], lines, refl)
some_line false b [] = (b ∷ [], [], refl)
some_line false b (line ∷ lines) = (b ∷ line, lines, refl)

some_lines : (text : List ℕ) → (first : List ℕ) × (more : List (List ℕ)) × (lines_of text ≡ first ∷ more)
some_lines [] = ([], [], refl)
some_lines (b ∷ text) = some_line (b == 10) b (lines_of text)

some_after : (lines : List (List ℕ)) (text : List ℕ) → (first : List ℕ) × (more : List (List ℕ)) × (lines ++ lines_of text ≡ first ∷ more)
some_after [] text = some_lines text
some_after (line ∷ lines) text = (line, lines ++ lines_of text, refl)

before_some : (line : List ℕ) (lines : List (List ℕ)) (first : List ℕ) (more : List (List ℕ)) → lines ≡ first ∷ more
    → all_but_last (line ∷ lines) ≡ line ∷ all_but_last lines
before_some line lines first more is = subst (λ ls. all_but_last (line ∷ ls) ≡ line ∷ all_but_last ls) (sym is) refl

but_last : (lines : List (List ℕ)) (text : List ℕ) → all_but_last (lines ++ lines_of text) ≡ lines ++ all_but_last (lines_of text)
but_last [] text = refl
but_last (line ∷ lines) text =
    let some = some_after lines text in
    before_some line (lines ++ lines_of text) some.0 some.1 some.2 ∙ ap (λ ls. line ∷ ls) (but_last lines text)

pub whole_ended : (lines : List (List ℕ)) (rest : List ℕ) → AreLines lines → whole_lines (ended_lines lines ++ rest) ≡ lines ++ whole_lines rest
whole_ended lines rest are = ap all_but_last (lines_ended lines rest are) ∙ but_last lines rest

pub whole_first : (line rest : List ℕ) → IsLine line → whole_lines (line ++ 10 ∷ rest) ≡ line ∷ whole_lines rest
whole_first line rest is = ap all_but_last (line_ended line rest is) ∙ but_last (line ∷ []) rest

pub whole_none : (line : List ℕ) → IsLine line → whole_lines line ≡ []
whole_none line is = ap all_but_last (line_last line is)

pub ended-next : (lines : List (List ℕ)) (line : List ℕ) → ended_lines (lines ++ line ∷ []) ≡ ended_lines lines ++ (line ++ 10 ∷ [])
ended-next [] line = refl
ended-next (first ∷ lines) line =
    ap (λ x. first ++ 10 ∷ x) (ended-next lines line) ∙ sym (append_assoc first (10 ∷ ended_lines lines) (line ++ 10 ∷ []))

pub lines-next : (lines : List (List ℕ)) (line : List ℕ) → AreLines lines → IsLine line → AreLines (lines ++ line ∷ [])
lines-next [] line are is = (is, tt)
lines-next (first ∷ lines) line are is = (are.0, lines-next lines line are.1 is)
